-- What a block of lines keeps of the store: every figure that is put there lies in the range that document 01 gives it.
-- Assumes nothing.
use mathlib.Core.Path.{◌≡◌, refl, ◌∙◌}
use mathlib.Core.List.{List, []}
use Prim.Native.Nat.{ℕ, zero, suc, ◌+◌, ◌*◌, ◌/◌, ◌%◌, ◌≤◌, ◌<◌}
use native.Mathlib.Decide.{dec_lt, ℕ_discrete}
use native.Mathlib.Omega.{arith}
use lib.Dec.{ltb}
use lib.ListN.{length, get_or, set, replicate, length-set, length-replicate, get_or-replicate, get_or-eq_default}
use lib.Seq.{get_or-set_same, get_or-set_other}
use borrow.Author.Tests.{ltb-false, eq-eqb, ne_eqb}
use Rattle.std.specs.Prelude.{Ok}
use Rattle.thermal.specs.Thermal.{steady_state}
use Rattle.thermal.proofs.Steady.{steady_within}
use Rattle.frame.specs.Sheet.{power_max, temperature_max, cost_max, decay_max}
use Rattle.frame.proofs.Table.{digit_div, digit_mod}
use Rattle.store.specs.Store.{jobs_max, levels_max}
use Rattle.store.specs.declared.Change.{Change}
use Rattle.store.specs.declared.Work.{Work}
use Rattle.store.specs.declared.Store.{Store}
use Rattle.store.specs.Figures.{no_change, no_work, clear, power_at, change_at, work_at}
use Rattle.fields.specs.Fields.{fields_of}
use Rattle.fields.specs.declared.Fault.TheVariants.{Range as OutOfRange}
use Rattle.fields.proofs.Within.{fields_held, held_at}
use Rattle.fields.proofs.After.{after_cases, after_ok, cond_fault}
use Rattle.line_kinds.specs.declared.Kind.{Kind}
use Rattle.line_kinds.specs.declared.Kind.TheVariants.{Level as LevelKind, Change as ChangeKind, Work as WorkKind}
use Rattle.line_kinds.specs.declared.Entry.{Entry}
use Rattle.line_kinds.specs.declared.Entry.TheVariants.{Level as LevelEntry, Change as ChangeEntry, Work as WorkEntry}
use Rattle.line_kinds.specs.Figures.{level_ranges, cost_range, change_ranges, work_ranges, steady_fields, level_fields, change_fields, work_fields, fields_for, put}
use Rattle.reading.specs.Rest.{Rest, next_by}
use Rattle.reading.proofs.Next.{line_read}
use Rattle.lines.specs.Lines.{Found, block_from}
use Rattle.lines.proofs.Rows.{row_of, first_of, put_at, block_in_row}

-- ---- the figures of a sound line

-- "L, power P (0 to 100,000)", with its steady-state temperature; "S, time, energy of a change", of level p left and level j entered;
-- "B, time .., energy (0 to 10,000,000), decay (0 to 65,536)".
pub record Powered (resistance power : ℕ) : Type 0 where
  pub most : power ≤ power_max
  pub steady : steady_state power resistance ≤ temperature_max

pub record Changed (p j : ℕ) (change : Change) : Type 0 where
  pub time : change.time ≤ cost_max
  pub energy : change.energy ≤ cost_max
  pub stay : j ≡ p → (change.time ≡ 0) × (change.energy ≡ 0)

pub record Worked (work : Work) : Type 0 where
  pub time : work.time ≤ cost_max
  pub energy : work.energy ≤ cost_max
  pub decay : work.decay ≤ decay_max

-- What line j of a kind says is of its kind, and its figures are in range: "B, time (1 to 10,000,000)".
abbrev Says : Kind → ℕ → Entry → Type 0
Says (LevelKind resistance) j entry = (power : ℕ) × (entry ≡ LevelEntry power) × Powered resistance power
Says (ChangeKind p) j entry = (change : Change) × (entry ≡ ChangeEntry change) × Changed p j change
Says WorkKind j entry = (work : Work) × (entry ≡ WorkEntry work) × Worked work × (1 ≤ work.time)

cost_most : (p j : ℕ) → (cost_range p j).most ≤ cost_max
cost_most p j = elim (ℕ_discrete j p) [
  | yes d ↦ rw (eq-eqb j p d) (omega arith)
  | no d ↦ rw (ne_eqb j p d) (omega arith)
]

cost_stay : (p j : ℕ) → j ≡ p → (cost_range p j).most ≡ 0
cost_stay p j d = rw (eq-eqb j p d) refl

says : (kind : Kind) (j : ℕ) (line : List ℕ) (entry : Entry) → fields_for kind j line ≡ Ok entry → Says kind j entry
unfolding fields_for level_fields steady_fields change_fields work_fields
says (LevelKind resistance) j line entry e =
    let a = after_ok (fields_of 76 level_ranges line) _ entry e in
    let v = get_or a.0 0 0 in
    let b = cond_fault (ltb temperature_max (steady_state v resistance)) (Ok (LevelEntry v)) (OutOfRange 2) entry a.2 in
    let h = held_at level_ranges a.0 0 (fields_held 76 level_ranges line a.0 a.1) (omega arith) in
    (v, cc, record { most = h.1; steady = ltb-false _ _ b.0 })
says (ChangeKind p) j line entry e =
    let a = after_ok (fields_of 83 (change_ranges p j) line) _ entry e in
    let h = fields_held 83 (change_ranges p j) line a.0 a.1 in
    let x = held_at (change_ranges p j) a.0 0 h (omega arith) in
    let y = held_at (change_ranges p j) a.0 1 h (omega arith) in (
      record { time = get_or a.0 0 0; energy = get_or a.0 1 0 },
      cc,
      record {
        time = omega (arith, x.1, cost_most p j);
        energy = omega (arith, y.1, cost_most p j);
        stay = λ d. (omega (arith, x.1, cost_stay p j d), omega (arith, y.1, cost_stay p j d));
      },
    )
says WorkKind j line entry e =
    let a = after_ok (fields_of 66 work_ranges line) _ entry e in
    let h = fields_held 66 work_ranges line a.0 a.1 in
    let x = held_at work_ranges a.0 0 h (omega arith) in
    let y = held_at work_ranges a.0 1 h (omega arith) in
    let z = held_at work_ranges a.0 2 h (omega arith) in (
      record { time = get_or a.0 0 0; energy = get_or a.0 1 0; decay = get_or a.0 2 0 },
      cc,
      record { time = x.1; energy = y.1; decay = z.1 },
      x.0,
    )

-- What is kept from line to line holds after a block of lines, whether it is sound or not.
module _ (P : Store → Type 0) (kind : Kind) (b : ℕ)
    (one : (j : ℕ) (entry : Entry) (st : Store) → Says kind j entry → P st → P (put (b + j) entry st)) where
  block_keeps : (n j : ℕ) (r : Rest) (st : Store) → P st → P (block_from kind b n j r st).store
  unfolding block_from
  block_keeps zero j r st h = h
  block_keeps (suc n) j r st h =
      after_cases (λ (f : Found). P f.store) (next_by (fields_for kind j) r) _ _ (λ f e. h)
      (λ line e.
      let s = says kind j _ line.0 (line_read (fields_for kind j) r line e).says in
      block_keeps n (j + 1) line.1 _ (one j line.0 st s h))

-- The same of a block by row.
module _ (P : Store → Type 0) (kind : Kind) (i : ℕ)
    (one : (j : ℕ) (entry : Entry) (st : Store) → Says kind j entry → P st → P (put_at (row_of kind i) j entry st)) where
  row_keeps : (n j : ℕ) (r : Rest) (st : Store) → P st → P (block_in_row kind i n j r st).store
  unfolding block_in_row
  row_keeps zero j r st h = h
  row_keeps (suc n) j r st h =
      after_cases (λ (f : Found). P f.store) (next_by (fields_for kind j) r) _ _ (λ f e. h)
      (λ line e.
      let s = says kind j _ line.0 (line_read (fields_for kind j) r line e).says in
      row_keeps n (j + 1) line.1 _ (one j line.0 st s h))

-- ---- a list with one place put

-- What holds of what is put, and of what stood there, holds at each place.
at_set : {A : Type 0} (P : A → Type 0) (xs : List A) (k j : ℕ) (x d : A) → P (get_or xs j d) → (j ≡ k → P x) → P (get_or (set xs k x) j d)
at_set P xs k j x d h g = elim (ℕ_discrete j k) [
  | yes e ↦ elim (dec_lt k (length xs)) [
    | yes l ↦ rw (e, get_or-set_same xs k x d l) (g e)
    | no l ↦
        let long : length (set xs k x) ≤ j = omega (arith, length-set xs k x) in
        let old : length xs ≤ j = omega arith in
        let q = rw (get_or-eq_default xs d old) at h in
        rw (get_or-eq_default (set xs k x) d long) q
  ]
  | no e ↦ rw (get_or-set_other xs k j x d e) h
]

-- The same for place b of row a.
at_put : {A : Type 0} (P : A → Type 0) (rows : List (List A)) (i j a b : ℕ) (x d : A) → P (get_or (get_or rows a []) b d) → (a ≡ i → b ≡ j → P x) →
    P (get_or (get_or (set rows i (set (get_or rows i []) j x)) a []) b d)
at_put P rows i j a b x d h g =
    at_set (λ xs. P (get_or xs b d)) rows i a _ [] h (λ e. at_set P (get_or rows i []) j b x d (rw e at h) (g e))

-- What is replicated is at each place, also past the end, where it counts.
at_replicate : {A : Type 0} (n j : ℕ) (a : A) → get_or (replicate n a) j a ≡ a
at_replicate n j a = elim (dec_lt j n) [
  | yes l ↦ get_or-replicate n j a a l
  | no l ↦
      let m : length (replicate n a) ≤ j = omega (arith, length-replicate n a) in
      get_or-eq_default (replicate n a) a m
]

at_rows : {A : Type 0} (m n i j : ℕ) (a : A) → get_or (get_or (replicate m (replicate n a)) i []) j a ≡ a
at_rows m n i j a = elim (dec_lt i m) [
  | yes l ↦ rw (get_or-replicate m i (replicate n a) [] l) (at_replicate n j a)
  | no l ↦
      let long : length (replicate m (replicate n a)) ≤ i = omega (arith, length-replicate m (replicate n a)) in
      rw (get_or-eq_default (replicate m (replicate n a)) [] long) refl
]

-- ---- a store of which every figure is in range

-- The store has a place for each job at each level.
pub record Sized (works : List (List Work)) : Type 0 where
  pub jobs : length works ≡ jobs_max
  pub levels : (i : ℕ) → i < jobs_max → length (get_or works i []) ≡ levels_max

pub record Kept (resistance : ℕ) (st : Store) : Type 0 where
  pub sized : Sized st.works
  pub power : (j : ℕ) → Powered resistance (power_at st j)
  pub change : (p j : ℕ) → Changed p j (change_at st p j)
  pub work : (i j : ℕ) → Worked (work_at st i j)

-- A store of no figures, for m jobs and l levels.
none_kept : (resistance m l : ℕ) → m ≡ jobs_max → l ≡ levels_max →
    Kept resistance (record { powers = replicate l 0; changes = replicate l (replicate l no_change); works = replicate m (replicate l no_work) })
none_kept resistance m l d e =
    record {
      sized = record {
        jobs = length-replicate m (replicate l no_work) ∙ d;
        levels = λ i h.
            let few : i < m = omega arith in
            rw (get_or-replicate m i (replicate l no_work) [] few) (length-replicate l no_work ∙ e);
      };
      power = λ j. rw (at_replicate {A = ℕ} l j 0) (record { most = omega arith; steady = steady_within 0 resistance temperature_max (omega arith) });
      change = λ p j. rw (at_rows l l p j no_change) (record { time = omega arith; energy = omega arith; stay = λ q. (refl, refl) });
      work = λ i j. rw (at_rows m l i j no_work) (record { time = omega arith; energy = omega arith; decay = omega arith });
    }

pub kept_clear : (resistance : ℕ) → Kept resistance clear
kept_clear resistance = none_kept resistance jobs_max levels_max refl refl

-- The lines of a kind are of a sheet with this resistance.
abbrev pub Resists : ℕ → Kind → Type 0
Resists resistance (LevelKind r) = r ≡ resistance
Resists resistance (ChangeKind p) = Unit {0}
Resists resistance WorkKind = Unit {0}

-- One line more, in its row.
put_sized : (i j : ℕ) (work : Work) (st : Store) → Sized st.works → Sized (put_at i j (WorkEntry work) st).works
unfolding put_at
put_sized i j work st z =
    record {
      jobs = length-set st.works i _ ∙ z.jobs;
      levels = λ a h.
          at_set (λ (row : List Work). length row ≡ levels_max) st.works i a _ [] (z.levels a h)
          (λ e. length-set (get_or st.works i []) j work ∙ z.levels i (omega arith));
    }

put_kept : (resistance : ℕ) (kind : Kind) → Resists resistance kind → (i j : ℕ) (entry : Entry) (st : Store) → Says kind j entry →
    Kept resistance st → Kept resistance (put_at (row_of kind i) j entry st)
unfolding put_at
put_kept resistance (LevelKind r) h i j entry st s z =
    rw s.1
    (record {
      sized = z.sized;
      power = λ k. at_set (Powered resistance) st.powers j k s.0 0 (z.power k) (λ e. rw (← h) s.2);
      change = z.change;
      work = z.work;
    })
put_kept resistance (ChangeKind p) h i j entry st s z =
    rw s.1
    (record {
      sized = z.sized;
      power = z.power;
      change = λ a b. at_put (Changed a b) st.changes _ j a b s.0 no_change (z.change a b) (λ e d. rw (e, d) s.2);
      work = z.work;
    })
put_kept resistance WorkKind h i j entry st s z =
    rw s.1
    (record {
      sized = put_sized _ j s.0 st z.sized;
      power = z.power;
      change = z.change;
      work = λ a b. at_put Worked st.works _ j a b s.0 no_work (z.work a b) (λ e d. s.2);
    })

-- A block by row, however many its lines.
pub block_kept : (resistance : ℕ) (kind : Kind) → Resists resistance kind → (i n j : ℕ) (r : Rest) (st : Store) →
    Kept resistance st → Kept resistance (block_in_row kind i n j r st).store
block_kept resistance kind h i = row_keeps (Kept resistance) kind i (put_kept resistance kind h i)

-- A row has `levels_max` places: place j of it is place j from its first on.
put_by_row : (kind : Kind) (i j : ℕ) (entry : Entry) (st : Store) → j < levels_max → Says kind j entry →
    put (first_of kind i + j) entry st ≡ put_at (row_of kind i) j entry st
unfolding put put_at
put_by_row (LevelKind resistance) i j entry st l s =
    let first : 0 + j ≡ j = omega arith in
    rw (s.1, first) refl
put_by_row (ChangeKind p) i j entry st l s = rw (s.1, digit_div p j levels_max l, digit_mod p j levels_max l) refl
put_by_row WorkKind i j entry st l s = rw (s.1, digit_div i j levels_max l, digit_mod i j levels_max l) refl

-- So a block that goes to the places from a row's first on is one by row, as far as the row goes.
pub block_from_row : (kind : Kind) (i n j : ℕ) (r : Rest) (st : Store) → j + n ≤ levels_max →
    block_from kind (first_of kind i) n j r st ≡ block_in_row kind i n j r st
unfolding block_from block_in_row
block_from_row kind i zero j r st l = refl
block_from_row kind i (suc n) j r st l =
    after_cases (λ (f : Found). f ≡ block_in_row kind i (suc n) j r st) (next_by (fields_for kind j) r) _ _
    (λ f e. rw e refl)
    (λ line e.
    let s = says kind j _ line.0 (line_read (fields_for kind j) r line e).says in
    rw (e, put_by_row kind i j line.0 st (omega arith) s) (block_from_row kind i n (j + 1) line.1 _ (omega arith)))

-- Place k of all that are of an entry's kind is place l of some row i.
put_place : (k : ℕ) (entry : Entry) (st : Store) → (i : ℕ) × (l : ℕ) × (put k entry st ≡ put_at i l entry st)
unfolding put put_at
put_place k (LevelEntry power) st = (0, k, refl)
put_place k (ChangeEntry change) st = (k / levels_max, k % levels_max, refl)
put_place k (WorkEntry work) st = (k / levels_max, k % levels_max, refl)

-- The first n lines of a kind are of a sheet with this resistance, and go to their places from place b on: S lines to those of the level
-- that they leave.
abbrev pub Belong : ℕ → ℕ → ℕ → Kind → Type 0
Belong resistance b n (LevelKind r) = r ≡ resistance
Belong resistance b n (ChangeKind p) = (b ≡ p * levels_max) × (n ≤ levels_max)
Belong resistance b n WorkKind = Unit {0}

-- A block that goes to the places from b on.
pub block_from_kept : (resistance : ℕ) (kind : Kind) (b n j : ℕ) → Belong resistance b (j + n) kind → (r : Rest) (st : Store) →
    Kept resistance st → Kept resistance (block_from kind b n j r st).store
unfolding put put_at
block_from_kept resistance (LevelKind own) b n j h r st z =
    block_keeps (Kept resistance) (LevelKind own) b
    (λ k entry old s. rw s.1 (put_kept resistance (LevelKind own) h 0 (b + k) (LevelEntry s.0) old (s.0, refl, s.2))) n j r st z
block_from_kept resistance (ChangeKind p) b n j h r st z =
    rw (h.0, block_from_row (ChangeKind p) 0 n j r st h.1) (block_kept resistance (ChangeKind p) tt 0 n j r st z)
block_from_kept resistance WorkKind b n j h r st z =
    block_keeps (Kept resistance) WorkKind b
    (λ k entry old s. let w = put_place (b + k) entry old in rw w.2 (put_kept resistance WorkKind tt w.0 w.1 entry old s)) n j r st z

-- ---- the lower end of a job's time

-- The time of job i at level j is at least 1.
abbrev pub Timed : Store → ℕ → ℕ → Type 0
Timed st i j = 1 ≤ (work_at st i j).time

-- No line leaves a time at 0 that was not 0 before, wherever it is put.
put_stays : (kind : Kind) (i k a b j : ℕ) (entry : Entry) (st : Store) → Says kind j entry → Timed st a b → Timed (put_at i k entry st) a b
unfolding put_at
put_stays (LevelKind r) i k a b j entry st s h = rw s.1 h
put_stays (ChangeKind p) i k a b j entry st s h = rw s.1 h
put_stays WorkKind i k a b j entry st s h = rw s.1 (at_put (λ (w : Work). 1 ≤ w.time) st.works i k a b s.0 no_work h (λ e d. s.3))

-- Nor does a block, by row or from a place on.
pub block_stays : (kind : Kind) (i n j : ℕ) (r : Rest) (st : Store) (a b : ℕ) → Timed st a b → Timed (block_in_row kind i n j r st).store a b
block_stays kind i n j r st a b = row_keeps (λ s. Timed s a b) kind i (λ k. put_stays kind (row_of kind i) k a b k) n j r st

pub block_from_stays : (kind : Kind) (b n j : ℕ) (r : Rest) (st : Store) (a c : ℕ) → Timed st a c → Timed (block_from kind b n j r st).store a c
block_from_stays kind b n j r st a c =
    block_keeps (λ s. Timed s a c) kind b
    (λ k entry old s h. let w = put_place (b + k) entry old in rw w.2 (put_stays kind w.0 w.1 a c k entry old s h)) n j r st

-- A time that was put is there.
put_timed : (i j : ℕ) (work : Work) (st : Store) → i < jobs_max → j < levels_max → Sized st.works → 1 ≤ work.time →
    Timed (put_at i j (WorkEntry work) st) i j
unfolding put_at
put_timed i j work st h l z w =
    let row = get_or st.works i [] in
    let x : i < length st.works = omega (arith, z.jobs) in
    let y : j < length row = omega (arith, z.levels i h) in
    rw (get_or-set_same st.works i (set row j work) [] x, get_or-set_same row j work no_work y) w

-- Where the B lines of a job are sound, their times are at least 1.
module _ (i : ℕ) (few : i < jobs_max) where
  pub work_timed : (n j : ℕ) (r : Rest) (st : Store) → j + n ≤ levels_max → Sized st.works → (end : Rest) →
      (block_in_row WorkKind i n j r st).read ≡ Ok end → (b : ℕ) → j ≤ b → b < j + n → Timed (block_in_row WorkKind i n j r st).store i b
  unfolding block_in_row
  work_timed zero j r st h z end = λ e b lo hi. absurd (omega arith)
  work_timed (suc n) j r st h z end =
      let read = fields_for WorkKind j in
      after_cases (λ (f : Found). f.read ≡ Ok end → (b : ℕ) → j ≤ b → b < j + suc n → Timed f.store i b) (next_by read r) _ _ (λ f q e. absurd cc)
      (λ line q e b lo hi.
      let s = says WorkKind j _ line.0 (line_read read r line q).says in
      let new = put_at i j line.0 st in
      let now : Timed new i j = rw s.1 (put_timed i j s.0 st few (omega arith) z s.3) in
      let sized : Sized new.works = rw s.1 (put_sized i j s.0 st z) in
      elim (ℕ_discrete b j) [
        | yes d ↦ rw d (block_stays WorkKind i n (j + 1) line.1 new i j now)
        | no d ↦ work_timed n (j + 1) line.1 new (omega arith) sized end e b (omega arith) (omega arith)
      ])

  pub block_from_timed : (n j : ℕ) (r : Rest) (st : Store) → j + n ≤ levels_max → Sized st.works → (end : Rest) →
      (block_from WorkKind (i * levels_max) n j r st).read ≡ Ok end → (b : ℕ) → j ≤ b → b < j + n →
      Timed (block_from WorkKind (i * levels_max) n j r st).store i b
  block_from_timed n j r st h = rw (block_from_row WorkKind i n j r st h) (work_timed n j r st h)
