-- The equation by what was read, and the demands in words from it.
use Rattle.sheet.proofs.Ranges.{reading_ranges}
use Rattle.demands.proofs.Demands.{demands_hold}
use Rattle.demands.proofs.Order.{answers_away, answers_read}
use Rattle.planner.proofs.plan.Goals.{in-Ok, in-Err}
use Rattle.planner.proofs.plan.Goals as goal

pub invariant_of-read : goal.invariant_of-read
invariant_of-read c = record { ranges = reading_ranges _ _ _ c.read.ensures _ c.in-Ok.is }

pub returns-clause-answers : goal.returns-clause-answers
returns-clause-answers c =
    elim c.match-read.branch [
      | in-Ok w ↦ answers_read _ _ c.read.ensures _ w.in-Ok.is _ _ _ _ _ (rw w.read-is at c.plan_read.ensures)
      | in-Err w ↦ answers_away _ _ c.read.ensures _ w.in-Err.is _ _ _ _ _ (rw w.read-is at c.plan_read.ensures)
    ]

pub returns-clause-demands : goal.returns-clause-demands
returns-clause-demands c = demands_hold _ _ _ _ _ _ (returns-clause-answers c)
