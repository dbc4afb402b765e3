-- What a table's axes and its need are made of, in its ranges (document 01, 'The sheet').
-- Assumes nothing.
use Rattle.std.specs.Prelude.{◌≤◌}
use Rattle.frame.specs.Sheet.{Between, jobs_max, levels_max, limit_max, temperature_max}
use Rattle.store.specs.declared.Head.{Head}

-- The head's jobs, levels, limits and steps are in their ranges.
pub record Bounded (h : Head) : Type 0 where
  pub jobs : h.jobs ≤ jobs_max
  pub levels : h.levels ≤ levels_max
  pub energy_budget : h.energy_budget ≤ limit_max
  pub temperature_limit : h.temperature_limit ≤ temperature_max
  pub energy_step : Between 1 limit_max h.energy_step
  pub temperature_step : Between 1 temperature_max h.temperature_step
