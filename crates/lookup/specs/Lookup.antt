-- What a table says of the time after a job (document 01, 'The rounded run and the table'): the word of the cell to which the state
-- at the job's end is raised.
-- Assumes nothing.
use Rattle.std.specs.Prelude.{cond, List, ℕ, ◌+◌, ◌*◌, ◌≤◌, ◌<◌, ltb, get_or}
use Rattle.thermal.specs.Rounding.{ceil_div}
use Rattle.frame.specs.Sheet.{Sheet, Between, limit_max}
use Rattle.frame.specs.Run.{State}
use Rattle.frame.specs.Table.{place, words_max}
use Rattle.run.specs.declared.Run.{Run}
use Rattle.table.specs.declared.axes.HeadAxes.{HeadAxes}
use Rattle.table.specs.Table.{Raises}

-- The place of the cell to which a state is raised.
unfoldable pub place_for : Sheet → State → ℕ
place_for s b = place s b.done b.level (ceil_div b.energy s.energy_step) (ceil_div b.temperature s.temperature_step)

-- What a table says of the time after a job that ends in b: the word of the cell to which b is raised, and 0 after the last.
unfoldable pub rest_by : Sheet → List ℕ → State → ℕ
rest_by s table b = cond (ltb b.done s.jobs) (get_or table (place_for s b) 0) 0

-- The place of a run's cell, by the axes that the code has.
unfoldable pub place_by : HeadAxes → Run → ℕ
place_by f b =
    ((b.done * f.head.levels + b.level) * f.energy_cells + ceil_div b.energy f.head.energy_step) * f.temperature_cells
    + ceil_div b.temperature f.head.temperature_step

-- What a table says of the time after b, by the axes that the code has.
unfoldable pub rest_in : HeadAxes → List ℕ → Run → ℕ
rest_in f table b = cond (ltb b.done f.head.jobs) (get_or table (place_by f b) 0) 0

-- What finding a run's cell may rest on: the run can be raised by these steps, there are cells, and the place is one of a table that
-- is allowed.
pub record Steps (f : HeadAxes) (b : Run) : Type 0 where
  pub raises : Raises b
  pub energy_step : Between 1 limit_max f.head.energy_step
  pub temperature_step : Between 1 limit_max f.head.temperature_step
  pub energy_count : 1 ≤ f.energy_cells
  pub temperature_count : 1 ≤ f.temperature_cells
  pub allowed : place_by f b < words_max

-- What reading its word may rest on, in a table of n words.
pub record Looks (f : HeadAxes) (b : Run) (n : ℕ) : Type 0 where
  pub steps : Steps f b
  pub room : place_by f b < n
