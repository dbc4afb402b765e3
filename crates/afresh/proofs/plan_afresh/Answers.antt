-- The equation by what was read, and the demands in words from it.
use mathlib.Core.Path.{refl, ap}
use Rattle.sheet.proofs.Ranges.{reading_ranges}
use Rattle.demands.proofs.Order.{afresh_away, afresh_read}
use Rattle.demands.proofs.Afresh.{afresh_hold}
use Rattle.afresh.proofs.plan_afresh.Goals.{in-Ok, in-Err}
use Rattle.afresh.proofs.plan_afresh.Goals as goal

pub invariant_of-read : goal.invariant_of-read
invariant_of-read c = record { ranges = reading_ranges _ _ _ c.read.ensures _ c.in-Ok.is }

pub plan_left-requires : goal.plan_left-requires
plan_left-requires c = ap (λ a. a.peak) c.into.ensures

pub returns-clause-answers : goal.returns-clause-answers
returns-clause-answers c =
    elim c.match-read.branch [
      | in-Ok w ↦ afresh_read _ _ c.read.ensures _ w.in-Ok.is _ _ _ _ _ _ (rw (w.read-is, c.into.ensures) at c.plan_left.ensures)
      | in-Err w ↦ afresh_away _ _ c.read.ensures _ w.in-Err.is _ _ _ _ _ (rw w.read-is at c.plan_left.ensures) _
    ]

pub returns-clause-afresh_demands : goal.returns-clause-afresh_demands
returns-clause-afresh_demands c = afresh_hold _ _ refl _ _ _ _ _ (returns-clause-answers c)
