-- What is known of a sheet: where it is refused, a bound on the place, and else that every test of the reader, from line 1 on, was
-- passed.
-- Assumes nothing.
use mathlib.Core.Path.{◌≡◌, refl, sym, ap, ◌∙◌}
use Rattle.std.proofs.lemmas.Option.{none-some, same_Some}
use mathlib.Core.Bool.{true}
use mathlib.Core.List.{List}
use Prim.Native.Nat.{ℕ, ◌≤◌}
use native.Mathlib.Omega.{arith}
use lib.Dec.{eqb, ltb}
use lib.ListN.{length}
use borrow.Author.Tests.{ltb-false}
use Rattle.text.specs.Text.{until, beyond, ahead}
use Rattle.fields.specs.declared.Fault.{Fault}
use Rattle.fields.specs.declared.Fault.TheVariants.{Shape, Form, Range}
use Rattle.fields.proofs.Faults.{field_in}
use Rattle.fields.proofs.After.{after_cases}
use Rattle.fields.proofs.Within.{cond_cases}
use Rattle.reading.specs.Rest.{Rest, whole, next_rest, next_by}
use Rattle.reading.proofs.Next.{line_read, line_fault}
use Rattle.reading.specs.declared.LineFault.{LineFault}
use Rattle.lines.specs.Lines.{Found}
use Rattle.body.specs.Body.{end_line, body_from}
use Rattle.body.proofs.Body.{body_placed}
use Rattle.refusal.specs.declared.Refusal.{Refusal}
use Rattle.refusal.specs.declared.Refusal.TheVariants.{TooLong, Hot, Trailing}
use Rattle.refusal.specs.Code.{refusal_as, refusal_of, number_of, line_of, field_of}
use Rattle.std.specs.Prelude.{None, Some, Result, Ok}
use Rattle.store.specs.declared.Head.{Head}
use Rattle.store.specs.declared.Store.{Store}
use Rattle.store.specs.Store.{jobs_max, levels_max}
use Rattle.store.specs.Figures.{clear}
use Rattle.sheet.specs.Reading.{SheetRead, read_in, refused_read, figures_from, head_from, reading_of}
use Rattle.head.specs.Head.{version_fields, head_fields}
use Rattle.head.proofs.Head.{InRange, head_held, head_field, version_field}

-- What is left of a sheet after its V line and its H line.
abbrev pub behind_head : List ℕ → Rest
behind_head t = next_rest (next_rest (whole t))

-- What is found there.
abbrev pub body_of : Head → List ℕ → Found
body_of head t = body_from head.jobs head.levels head.resistance (behind_head t) clear

-- The text t is read as r: the V line and the H line are ended, the figures of the H line are in their ranges, and the lines after
-- it are sound, with `end` left behind them.
pub record Whole (t : List ℕ) (r : SheetRead) : Type 0 where
  pub head : Head
  pub first : ahead 10 t ≡ true
  pub second : ahead 10 (beyond 10 t) ≡ true
  pub held : InRange head
  pub cool : head.start_temperature ≤ head.temperature_limit
  pub end : Rest
  pub sound : (body_of head t).read ≡ Ok end
  pub same : r ≡ read_in (Ok head) (body_of head t).store

-- A sheet's refusal is one of 1 to 6, its line and its field have a bound, and 5 is the start temperature's: field 8 of line 2.
pub record Refused (r : Refusal) : Type 0 where
  pub number : number_of r ≤ 6
  pub line : line_of r ≤ end_line
  pub field : field_of r ≤ 11
  pub hot : number_of r ≡ 5 → (line_of r ≡ 2) × (field_of r ≡ 8)

-- A fault is such a refusal.
fault_refused : (f : LineFault) → f.line ≤ end_line → field_in f.fault ≤ 11 → Refused (refusal_of f)
fault_refused f = go f.fault
  where
    go : (fault : Fault) → f.line ≤ end_line → field_in fault ≤ 11 → Refused (refusal_as f.line fault)
    go Shape h k = record { number = omega arith; line = h; field = omega arith; hot = λ e. (omega (arith, e), omega (arith, e)) }
    go (Form field) h k = record { number = omega arith; line = h; field = k; hot = λ e. (omega (arith, e), omega (arith, e)) }
    go (Range field) h k = record { number = omega arith; line = h; field = k; hot = λ e. (omega (arith, e), omega (arith, e)) }

-- What holds of every refusal and of every whole reading of the text t holds of its sheet.
module _ (t : List ℕ) (P : SheetRead → Type 0) (refused : (r : Refusal) → Refused r → P (refused_read r)) (read : (r : SheetRead) → Whole t r → P r) where
  -- From line 3 on.
  figures_cases : (head : Head) → ahead 10 t ≡ true → ahead 10 (beyond 10 t) ≡ true → InRange head → head.start_temperature ≤ head.temperature_limit →
      P (figures_from head (behind_head t))
  unfolding figures_from
  figures_cases head a b h cool =
      let f = body_of head t in
      let p = body_placed head.jobs head.levels head.resistance (behind_head t) clear h.jobs.1 h.levels.1 (omega arith) in
      after_cases P f.read _ _ (λ fault e. refused (refusal_of fault) (fault_refused fault (p.fault fault e).0 (p.fault fault e).1))
      (λ end e. cond_cases P (eqb (length end.text) 0) _ _
      (λ c. read _ (record { head = head; first = a; second = b; held = h; cool = cool; end = end; sound = e; same = refl }))
      (λ c. refused (Trailing end.line) (record { number = omega arith; line = p.line end e; field = omega arith; hot = λ z. (omega (arith, z), omega (arith, z)) })))

  -- From line 2 on.
  head_cases : (version : ℕ) → ahead 10 t ≡ true → P (head_from version (next_rest (whole t)))
  unfolding head_from
  head_cases version a =
      let r = next_rest (whole t) in
      after_cases P (next_by (head_fields version) r) _ _
      (λ f e. let p = line_fault (head_fields version) r f (head_field version (until 10 r.text)) e in refused (refusal_of f) (fault_refused f (omega (arith, p.line)) p.field))
      (λ head e. let p = line_read (head_fields version) r head e in
      cond_cases P (ltb head.0.temperature_limit head.0.start_temperature) _ _ (λ c. refused Hot (record { number = omega arith; line = omega arith; field = omega arith; hot = λ e. (omega arith, omega arith) }))
      (λ c. rw p.rest (figures_cases head.0 a p.ends (head_held version (until 10 r.text) head.0 p.says) (ltb-false _ _ c))))

  -- From line 1 on.
  pub sheet_cases : P (reading_of t)
  unfolding reading_of
  sheet_cases =
      let r = whole t in
      cond_cases P (ltb 20480 (length t)) _ _ (λ a. refused TooLong (record { number = omega arith; line = omega arith; field = omega arith; hot = λ e. (omega (arith, e), omega (arith, e)) }))
      (λ a. after_cases P (next_by version_fields r) _ _
      (λ f e. let p = line_fault version_fields r f (version_field (until 10 r.text)) e in refused (refusal_of f) (fault_refused f (omega (arith, p.line)) p.field))
      (λ version e. let p = line_read version_fields r version e in rw p.rest (head_cases version.0 p.ends)))

-- What was read of a sheet that is not refused.
pub read_on : (t : List ℕ) {r : Result Head Refusal} {h : Head} (st : Store) → read_in r st ≡ reading_of t → r ≡ Ok h → read_in (Ok h) st ≡ reading_of t
read_on t st e m = rw m at e

-- A reading is whole, unless it is refused.
pub read_whole : (t : List ℕ) → (reading_of t).refusal ≡ None → Whole t (reading_of t)
read_whole t = sheet_cases t (λ r. r.refusal ≡ None → Whole t r) (λ r h e. absurd (none-some r (sym e))) (λ r w e. w)

-- It is refused by 1 to 6 alone.
pub read_refused : (t : List ℕ) (f : Refusal) → (reading_of t).refusal ≡ Some f → Refused f
read_refused t f =
    sheet_cases t (λ r. r.refusal ≡ Some f → Refused f) (λ r h e. rw (same_Some f r (sym e)) h) (λ r w e. absurd (none-some f (ap (λ (x : SheetRead). x.refusal) (sym w.same) ∙ e)))

-- ---- counts: at most 64 jobs and 8 levels, and none of either where the sheet is refused

pub record Counts (r : SheetRead) : Type 0 where
  pub jobs : r.head.jobs ≤ jobs_max
  pub levels : r.head.levels ≤ levels_max

pub counts : (t : List ℕ) → Counts (reading_of t)
counts t =
    sheet_cases t Counts (λ r h. omega arith)
    (λ r w. rw w.same (record { jobs = w.held.jobs.1; levels = w.held.levels.1 }))
