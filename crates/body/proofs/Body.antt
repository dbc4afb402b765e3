-- Laws of the lines after the H line: one block or job more, and where the reading stops.
-- Assumes nothing.
use mathlib.Core.Path.{◌≡◌, refl, ap, sym, ◌∙◌}
use Prim.Native.Nat.{ℕ, zero, suc, ◌+◌, ◌*◌, ◌-◌, ◌≤◌, ◌<◌}
use native.Mathlib.Omega.{arith}
use Rattle.std.specs.Prelude.{Result, Ok, Err}
use Rattle.std.specs.Result.{result_map_both}
use Rattle.text.specs.Text.{until}
use Rattle.fields.proofs.After.{after_cases}
use Rattle.reading.specs.declared.LineFault.{LineFault}
use Rattle.reading.specs.Rest.{Rest, next_by}
use Rattle.reading.proofs.Next.{line_read, line_fault}
use Rattle.store.specs.declared.Store.{Store}
use Rattle.store.specs.Store.{jobs_max, levels_max}
use Rattle.name_lines.specs.Name.{name_fault}
use Rattle.name_lines.proofs.Name.{name_field}
use Rattle.line_kinds.specs.declared.Kind.TheVariants.{Level, Change, Work}
use Rattle.lines.specs.Lines.{Found, stop, block_from}
use Rattle.lines.proofs.Places.{Placed, placed_end, placed_stop, block_from_placed}
use Rattle.body.specs.Body.{job_lines, head_lines, lines_before, end_line, onward, changes_from, name_from, jobs_from, body_from}

-- ---- going on or stopping

-- Lines are read to where r is left, and leave the store.
abbrev pub pass : Store → Rest → Found
pass st r = record { read = Ok r; store = st }

module _ {f : Found} {st : Store} (go : Rest → Store → Found) where
  onward_stop : {e : LineFault} → stop st e ≡ f → stop st e ≡ onward f go
  onward_stop h = rw (← h) refl

  onward_on : {r : Rest} → pass st r ≡ f → onward f go ≡ go r st
  onward_on h = rw (← h) refl

-- ---- n parts of a sheet, of which the first i are read

-- What is found in the next parts, as many as the first number says, from that of the second number on.
abbrev pub Parts : Type 0
Parts = ℕ → ℕ → Rest → Store → Found

pub record PartsLeft (from : Parts) (n i : ℕ) (start : Rest) (old : Store) (rest : Rest) (store : Store) : Type 0 where
  pub same : from n 0 start old ≡ from (n - i) i rest store

module _ {from : Parts} {n i : ℕ} {start rest : Rest} {old store : Store} (g : PartsLeft from n i start old rest store) where
  pub parts_all : n ≤ i → from n 0 start old ≡ from 0 i rest store
  parts_all h = let z : n - i ≡ 0 = omega arith in rw z at g.same

  module _ (h : i < n) where
    pub parts_more : from n 0 start old ≡ from (suc (n - (i + 1))) i rest store
    parts_more = let z : n - i ≡ suc (n - (i + 1)) = omega arith in rw z at g.same

    -- The next part is f.
    module _ {f : Found} {new : Store} (step : from (suc (n - (i + 1))) i rest store ≡ onward f (from (n - (i + 1)) (i + 1))) where
      pub parts_stop : {e : LineFault} → stop new e ≡ f → stop new e ≡ from n 0 start old
      parts_stop q = onward_stop (from (n - (i + 1)) (i + 1)) q ∙ sym (parts_more ∙ step)

      pub parts_on : {r : Rest} → pass new r ≡ f → PartsLeft from n (i + 1) start old r new
      parts_on q = record { same = parts_more ∙ step ∙ onward_on (from (n - (i + 1)) (i + 1)) q }

-- ---- a job, by its J line

-- What a line says, by what is left behind it.
module _ {A : Type 0} where
  unread : (name : Result (A × Rest) LineFault) (e : LineFault) → Err e ≡ result_map_both (λ x. x.1) (λ f. f) name → name ≡ Err e
  unread (Ok x) e q = absurd cc
  unread (Err f) e q = let p : f ≡ e = cc in rw p refl

  read_on : (name : Result (A × Rest) LineFault) (r : Rest) → Ok r ≡ result_map_both (λ x. x.1) (λ f. f) name → (a : A) × (name ≡ Ok (a, r))
  read_on (Ok (a, s)) r q = let p : s ≡ r = cc in (a, rw p refl)
  read_on (Err f) r q = absurd cc

module _ (l n i : ℕ) (rest : Rest) (store : Store) where
  pub job_unnamed : {e : LineFault} → Err e ≡ name_from rest → stop store e ≡ jobs_from l (suc n) i rest store
  unfolding name_from jobs_from
  job_unnamed {e} q = rw (unread (next_by name_fault rest) e q) refl

  pub job_named : {r : Rest} → Ok r ≡ name_from rest →
      jobs_from l (suc n) i rest store ≡ onward (block_from Work (i * levels_max) l 0 r store) (jobs_from l n (i + 1))
  unfolding name_from jobs_from
  job_named {r} q = rw (read_on (next_by name_fault rest) r q).1 refl

-- ---- all of them, one after the other

module _ (m l resistance : ℕ) (start : Rest) (old : Store) {one : Store} where
  pub body_levels : {e : LineFault} → stop one e ≡ block_from (Level resistance) 0 l 0 start old →
      stop one e ≡ body_from m l resistance start old
  unfolding body_from
  body_levels a = onward_stop (jobs_from l m 0) (onward_stop (changes_from l l 0) a)

  module _ {changes : Rest} (a : pass one changes ≡ block_from (Level resistance) 0 l 0 start old) {two : Store} where
    pub body_changes : {e : LineFault} → stop two e ≡ changes_from l l 0 changes one →
        stop two e ≡ body_from m l resistance start old
    unfolding body_from
    body_changes b = onward_stop (jobs_from l m 0) (b ∙ sym (onward_on (changes_from l l 0) a))

    pub body_jobs : {jobs : Rest} → pass two jobs ≡ changes_from l l 0 changes one → {f : Found} → f ≡ jobs_from l m 0 jobs two →
        f ≡ body_from m l resistance start old
    unfolding body_from
    body_jobs b c = c ∙ sym (onward_on (jobs_from l m 0) (b ∙ sym (onward_on (changes_from l l 0) a)))

-- ---- where the reading stops at the latest

-- Lines that stop at line a at the latest, and those after them, if they are sound.
onward_placed : (a most : ℕ) (f : Found) (go : Rest → Store → Found) → a ≤ most → Placed a f →
    ((r : Rest) (st : Store) → r.line ≤ a → Placed most (go r st)) → Placed most (onward f go)
onward_placed a most f go h p q =
    after_cases (Placed most) f.read _ _ (λ e i. let z = p.fault e i in placed_stop most f.store e (omega (arith, z.0)) z.1)
    (λ r i. q r f.store (p.line r i))

module _ (l : ℕ) (few : l ≤ levels_max) (most : ℕ) where
  -- The S lines of the next n levels left.
  changes_placed : (n p : ℕ) (r : Rest) (st : Store) → r.line + n * levels_max ≤ most → Placed most (changes_from l n p r st)
  unfolding changes_from
  changes_placed zero p r st h = placed_end most st r (omega arith)
  changes_placed (suc n) p r st h =
      onward_placed (r.line + l) most _ _ (omega arith) (block_from_placed (Change p) (p * levels_max) l 0 r st)
      (λ s store q. changes_placed n (p + 1) s store (omega arith))

  -- The lines of the next n jobs.
  jobs_placed : (n i : ℕ) (r : Rest) (st : Store) → r.line + n * job_lines levels_max ≤ most → Placed most (jobs_from l n i r st)
  unfolding jobs_from
  jobs_placed zero i r st h = placed_end most st r (omega arith)
  jobs_placed (suc n) i r st h =
      after_cases (Placed most) (next_by name_fault r) _ _
      (λ f e. let z = line_fault name_fault r f (name_field (until 10 r.text)) e in placed_stop most st f (omega (arith, z.line)) z.field)
      (λ name e.
      let z = ap (λ (s : Rest). s.line) (line_read name_fault r name e).rest in
      onward_placed (name.1.line + l) most _ _ (omega (arith, z)) (block_from_placed Work (i * levels_max) l 0 name.1 st)
      (λ s store q. jobs_placed n (i + 1) s store (omega (arith, z))))

-- All of them, and bytes after them on the next line.
pub body_placed : (m l resistance : ℕ) (r : Rest) (st : Store) → m ≤ jobs_max → l ≤ levels_max → r.line ≤ head_lines + 1 →
    Placed end_line (body_from m l resistance r st)
unfolding body_from
body_placed m l resistance r st jobs few h =
    onward_placed (lines_before levels_max 0 + 1) end_line _ _ (omega arith)
    (onward_placed (r.line + l) (lines_before levels_max 0 + 1) _ _ (omega arith) (block_from_placed (Level resistance) 0 l 0 r st)
    (λ s store q. changes_placed l few _ l 0 s store (omega arith)))
    (λ s store q. jobs_placed l few end_line m 0 s store (omega arith))
