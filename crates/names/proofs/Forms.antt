-- The name of each job of a sheet that is read is of the written form, and every line of the sheet is ended.
-- Assumes nothing.
use mathlib.Core.Path.{◌≡◌, refl, ap, sym, ◌∙◌}
use mathlib.Core.Bool.{true}
use mathlib.Core.List.{List}
use Prim.Native.Nat.{ℕ, zero, suc, ◌+◌, ◌*◌, ◌-◌, ◌≤◌, ◌<◌}
use native.Mathlib.Decide.{dec_lt}
use native.Mathlib.Omega.{arith}
use lib.ListN.{length}
use Rattle.text.specs.Text.{until, beyond, ahead}
use Rattle.fields.specs.Fields.{opens}
use Rattle.name_lines.specs.Name.{name_max, is_name, name_on, name_fault}
use Rattle.name_lines.proofs.Name.{name_few}
use Rattle.fields.specs.declared.Fault.{Fault}
use Rattle.fields.specs.declared.Fault.TheVariants.{Shape, Form}
use Rattle.reading.specs.Rest.{Rest, next_by}
use Rattle.reading.proofs.Next.{line_read}
use Rattle.lines.specs.Lines.{Found, block_from}
use Rattle.line_kinds.specs.Figures.{fields_for, put}
use Rattle.line_kinds.specs.declared.Kind.{Kind}
use Rattle.line_kinds.specs.declared.Kind.TheVariants.{Level, Change, Work}
use Rattle.fields.proofs.After.{after_cases, cond_ok}
use Rattle.store.specs.Store.{levels_max}
use Rattle.store.specs.declared.Store.{Store}
use Rattle.store.specs.Figures.{clear}
use Rattle.body.specs.Body.{onward, changes_from, jobs_from, body_from, lines_before}
use Rattle.std.specs.Prelude.{None, Result, Ok}
use Rattle.sheet.specs.Reading.{reading_of}
use Rattle.sheet.proofs.Whole.{behind_head, Whole, read_whole}
use Rattle.name_places.specs.Place.{skip, next_name}
use Rattle.name_places.proofs.Place.{skip_add}
use Rattle.names.specs.Name.{name_at, name_of}
use Rattle.names.proofs.Name.{name_some}

-- ---- lines that are passed

-- The first n lines of the text t are ended, and u comes after them.
record Passed (n : ℕ) (t u : List ℕ) : Type 0 where
  ended : (k : ℕ) → k < n → ahead 10 (skip k t) ≡ true
  rest : u ≡ skip n t

passed_none : (t : List ℕ) → Passed 0 t t
unfolding skip
passed_none t = record { ended = λ k h. absurd (omega arith); rest = refl }

-- One line more, in front.
passed_more : {n : ℕ} {t u : List ℕ} → ahead 10 t ≡ true → Passed n (beyond 10 t) u → Passed (suc n) t u
unfolding skip
passed_more {n} {t} a p = record { ended = go; rest = p.rest }
  where
    go : (k : ℕ) → k < suc n → ahead 10 (skip k t) ≡ true
    go zero h = a
    go (suc k) h = p.ended k (omega arith)

passed_add : {a b : ℕ} {t u v : List ℕ} → Passed a t u → Passed b u v → Passed (a + b) t v
passed_add {a} {b} {t} p q =
    record {
      ended = λ k h. elim (dec_lt k a) [
        | yes d ↦ p.ended k d
        | no d ↦
            let z : k ≡ a + (k - a) = omega arith in
            rw (z, skip_add a (k - a) t, ← p.rest) (q.ended (k - a) (omega arith))
      ];
      rest = q.rest ∙ ap (skip b) p.rest ∙ sym (skip_add a b t);
    }

-- ---- lines that are sound to the end

-- What was found is n lines of r, where it is sound.
abbrev Passes : ℕ → Rest → Found → Type 0
Passes n r f = (end : Rest) → f.read ≡ Ok end → Passed n r.text end.text

-- Sound lines are sound up to a place, and from there on.
onward_sound : (f : Found) (go : Rest → Store → Found) (end : Rest) → (onward f go).read ≡ Ok end →
    (next : Rest) × (f.read ≡ Ok next) × ((go next f.store).read ≡ Ok end)
onward_sound f go end =
    after_cases (λ (g : Found). g.read ≡ Ok end → (next : Rest) × (f.read ≡ Ok next) × ((go next f.store).read ≡ Ok end)) f.read _ _
    (λ fault q e. absurd cc) (λ next q e. (next, q, e))

onward_passes : {a b : ℕ} (r : Rest) (f : Found) (go : Rest → Store → Found) → Passes a r f → ((next : Rest) (st : Store) → Passes b next (go next st)) →
    Passes (a + b) r (onward f go)
onward_passes r f go p q end e = let s = onward_sound f go end e in passed_add (p s.0 s.1) (q s.0 f.store end s.2)

-- One line more that is read, in front.
line_passes : {A : Type 0} {n : ℕ} {t : List ℕ} (read : List ℕ → Result A Fault) (r : Rest) (x : A × Rest) → next_by read r ≡ Ok x →
    Passed n x.1.text t → Passed (suc n) r.text t
line_passes read r x e p = let l = line_read read r x e in passed_more l.ends (rw l.rest at p)

-- The lines of a block.
block_passes : (kind : Kind) (b n j : ℕ) (r : Rest) (st : Store) → Passes n r (block_from kind b n j r st)
unfolding block_from
block_passes kind b zero j r st = λ end e. let q : r ≡ end = cc in rw (← q) (passed_none r.text)
block_passes kind b (suc n) j r st =
    after_cases (Passes (suc n) r) (next_by (fields_for kind j) r) _ _ (λ fault q end e. absurd cc)
    (λ line q end e. line_passes (fields_for kind j) r line q (block_passes kind b n (j + 1) line.1 (put (b + j) line.0 st) end e))

-- The S lines.
changes_passes : (l n p : ℕ) (r : Rest) (st : Store) → Passes (n * l) r (changes_from l n p r st)
unfolding changes_from
changes_passes l zero p r st = λ end e.
    let z : 0 * l ≡ 0 = omega arith in
    let q : r ≡ end = cc in
    rw (z, ← q) (passed_none r.text)
changes_passes l (suc n) p r st =
    let z : suc n * l ≡ l + n * l = omega arith in
    rw z (onward_passes r (block_from (Change p) (p * levels_max) l 0 r st) (changes_from l n (p + 1)) (block_passes (Change p) (p * levels_max) l 0 r st) (changes_passes l n (p + 1)))

-- ---- the names of jobs

name_formed : (line : List ℕ) → name_fault line ≡ Ok tt → is_name (name_on line) ≡ true
unfolding name_fault
name_formed line e =
    let a = cond_ok (opens 74 1 line) _ Shape tt e in
    (cond_ok (is_name (name_on line)) _ (Form 2) tt a.1).0

-- The text t has a lines and those of n jobs at l levels, and u comes after them; each job's name is of the written form.
record Named (l n a : ℕ) (t u : List ℕ) : Type 0 where
  passed : Passed (a + n * (l + 1)) t u
  named : (i : ℕ) → i < n → is_name (name_at (a + i * (l + 1)) t) ≡ true

-- More lines in front.
named_add : {l n a b : ℕ} {t u v : List ℕ} → Passed b t u → Named l n a u v → Named l n (b + a) t v
unfolding name_at
named_add {l} {n} {a} {b} {t} p w =
    let z : (i : ℕ) → (b + a) + i * (l + 1) ≡ b + (a + i * (l + 1)) = λ i. omega arith in
    record {
      passed = rw (z n) (passed_add p w.passed);
      named = λ i h. rw (z i, skip_add b (a + i * (l + 1)) t, ← p.rest) (w.named i h);
    }

-- One job more, in front.
named_more : {l n : ℕ} {t u v : List ℕ} → is_name (next_name t) ≡ true → Passed (l + 1) t u → Named l n 0 u v → Named l (suc n) 0 t v
unfolding name_at skip
named_more {l} {n} {t} {u} {v} f p w = record { passed = rw (z n) y.passed; named = go }
  where
    y : Named l n (l + 1 + 0) t v
    y = named_add p w

    z : (i : ℕ) → 0 + suc i * (l + 1) ≡ l + 1 + 0 + i * (l + 1)
    z i = omega arith

    go : (i : ℕ) → i < suc n → is_name (name_at (0 + i * (l + 1)) t) ≡ true
    go zero h = let x : 0 + 0 * (l + 1) ≡ 0 = omega arith in rw x f
    go (suc i) h = rw (z i) (y.named i (omega arith))

jobs_named : (l n i : ℕ) (r : Rest) (st : Store) (end : Rest) → (jobs_from l n i r st).read ≡ Ok end → Named l n 0 r.text end.text
unfolding jobs_from
jobs_named l zero i r st end = λ e.
    let z : 0 + 0 * (l + 1) ≡ 0 = omega arith in
    let q : r ≡ end = cc in
    record { passed = rw (z, ← q) (passed_none r.text); named = λ k h. absurd (omega arith) }
jobs_named l (suc n) i r st end =
    let z : l + 1 ≡ suc l = omega arith in
    after_cases (λ (f : Found). f.read ≡ Ok end → Named l (suc n) 0 r.text end.text) (next_by name_fault r) _ _ (λ fault q e. absurd cc)
    (λ name q e.
    let f = block_from Work (i * levels_max) l 0 name.1 st in
    let s = onward_sound f (jobs_from l n (i + 1)) end e in
    named_more (name_formed (until 10 r.text) (line_read name_fault r name q).says)
    (rw z (line_passes name_fault r name q (block_passes Work (i * levels_max) l 0 name.1 st s.0 s.1)))
    (jobs_named l n (i + 1) s.0 f.store end s.2))

body_named : (m l resistance : ℕ) (r : Rest) (st : Store) (end : Rest) → (body_from m l resistance r st).read ≡ Ok end →
    Named l m (l + l * l) r.text end.text
unfolding body_from
body_named m l resistance r st end e =
    let f = block_from (Level resistance) 0 l 0 r st in
    let g = onward f (changes_from l l 0) in
    let s = onward_sound g (jobs_from l m 0) end e in
    let p = onward_passes r f (changes_from l l 0) (block_passes (Level resistance) 0 l 0 r st) (changes_passes l l 0) s.0 s.1 in
    let z : l + l * l + 0 ≡ l + l * l = omega arith in
    rw z at (named_add p (jobs_named l m 0 s.0 g.store end s.2))

-- ---- a whole sheet

sheet_named : (t : List ℕ) (w : Whole t (reading_of t)) →
    let h = (reading_of t).head in Named h.levels h.jobs (2 + h.levels + h.levels * h.levels) t w.end.text
sheet_named t w =
    let m = w.head.jobs in
    let l = w.head.levels in
    let z : 2 + l + l * l ≡ 2 + (l + l * l) = omega arith in
    rw (w.same, z)
    (named_add (passed_more w.first (passed_more w.second (passed_none _))) (body_named m l w.head.resistance (behind_head t) clear w.end w.sound))

-- Every line of a sheet that is read is ended.
pub lines_ahead : (t : List ℕ) (n : ℕ) → (reading_of t).refusal ≡ None →
    n < lines_before (reading_of t).head.levels (reading_of t).head.jobs →
    ahead 10 (skip n t) ≡ true
lines_ahead t n e h = (sheet_named t (read_whole t e)).passed.ended n h

-- The name of a job of a sheet that is read is of the written form: "name (1 to 16 bytes, each 33 to 126)".
pub job_name_form : (t : List ℕ) (i : ℕ) → (reading_of t).refusal ≡ None → i < (reading_of t).head.jobs → is_name (name_of t i) ≡ true
job_name_form t i e h = rw (name_some t i (reading_of t) refl h) ((sheet_named t (read_whole t e)).named i h)

-- It has at most 16 bytes.
pub job_name_short : (t : List ℕ) (i : ℕ) → (reading_of t).refusal ≡ None → i < (reading_of t).head.jobs → length (name_of t i) ≤ name_max
job_name_short t i e h = name_few (name_of t i) (job_name_form t i e h)
