-- What following a filled table rests on.
-- Assumes nothing.
use Rattle.std.specs.Prelude.{◌-◌, ◌≤◌, ◌<◌}
use Rattle.frame.specs.Sheet.{Sheet}
use Rattle.frame.specs.Run.{State}
use Rattle.frame.specs.Plan.{least}
use Rattle.frame.specs.Demands.{infeasible}

-- A state from which the jobs that are left can be done: one is left, the limits are kept so far, and there is a way.
pub record Starts (s : Sheet) (a : State) : Type 0 where
  pub done : a.done < s.jobs
  pub level : a.level < s.levels
  pub energy : a.energy ≤ s.energy_budget
  pub temperature : a.temperature ≤ s.temperature_limit
  pub way : least s (s.jobs - a.done) a < infeasible
