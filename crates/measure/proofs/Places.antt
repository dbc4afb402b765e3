-- Where a list is refused at the latest, by the ways of the definition.
-- Assumes nothing.
use mathlib.Core.List.{List}
use Prim.Native.Nat.{ℕ, ◌≤◌}
use native.Mathlib.Omega.{arith}
use lib.Dec.{eqb, ltb}
use lib.ListN.{length}
use borrow.Author.Tests.{eqb-true, ltb-true}
use Rattle.store.specs.Store.{jobs_max}
use Rattle.fields.proofs.Within.{cond_cases}
use Rattle.refusal.proofs.Apart.{accepted_ways}
use Rattle.body.specs.Body.{end_line}
use Rattle.sheet.specs.Reading.{reading_of, sheet_in}
use Rattle.sheet.proofs.Whole.{read_refused}
use Rattle.sheet.proofs.Ranges.{read_ranges}
use Rattle.measure.specs.Measure.{Measured, first_above, turned_away, measure_of}

-- A line of the sheet or the next, and a field of it or a place in the list.
pub record Near (q : Measured) : Type 0 where
  pub line : q.line ≤ end_line
  pub field : q.field ≤ jobs_max

pub measured_near : (t js : List ℕ) → Near (measure_of t js)
unfolding measure_of
measured_near t js =
    let s = sheet_in t in
    let place = first_above s.levels js in
    accepted_ways Near (reading_of t).refusal turned_away _ (λ f h. let w = read_refused t f h in record { line = w.line; field = omega (arith, w.field) })
    (λ e. cond_cases Near (eqb (length js) s.jobs) _ _
    (λ m. cond_cases Near (ltb place (length js)) _ _
    (λ l. omega (arith, ltb-true place (length js) l, eqb-true (length js) s.jobs m, (read_ranges t e).jobs.high)) (λ l. omega arith))
    (λ m. omega arith))
