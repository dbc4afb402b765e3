-- The moves of a job from one level to another (document 01, 'The rounded run and the table'). From a cell, a job at level j moves the
-- energy cell by a number that is the same for all cells, and is lawful for the first cells of the energy axis.
-- Assumes nothing.
use Rattle.std.specs.Prelude.{◌≡◌, cond, List, ℕ, ◌+◌, ◌*◌, ◌-◌, ◌/◌, ◌≤◌, ◌<◌, ltb}
use Rattle.thermal.specs.Rounding.{ceil_div}
use Rattle.frame.specs.Sheet.{Sheet}
use Rattle.frame.specs.Run.{State, fresh, step}
use Rattle.frame.specs.Table.{temperature_cells}
use Rattle.table.specs.declared.axes.Frame.{Frame}
use Rattle.open_ways.specs.declared.Move.{Move}
use Rattle.open_ways.specs.Moves.{move_at}

-- Job i at level j, from level p, energy 0 and temperature 0: its time and energy are the job's and the change's.
abbrev pub moved : Sheet → ℕ → ℕ → ℕ → State
moved s i p j = step s (fresh i p 0 0) j

-- How many words of the energy axis it moves on, 0 where no cell has the energy for it.
unfoldable pub shift_of : Sheet → ℕ → ℕ → ℕ → ℕ
shift_of s i p j =
    cond (ltb s.energy_budget (moved s i p j).energy) 0 (ceil_div (moved s i p j).energy s.energy_step * temperature_cells s)

-- How many words, from the first, it is lawful for: those of energy cells a with a × g and the job's energy "at most W".
unfoldable pub reach_of : Sheet → ℕ → ℕ → ℕ → ℕ
reach_of s i p j =
    cond (ltb s.energy_budget (moved s i p j).energy) 0
    (((s.energy_budget - (moved s i p j).energy) / s.energy_step + 1) * temperature_cells s)

-- The move as the code has it.
abbrev pub move_of : Sheet → ℕ → ℕ → ℕ → Move
move_of s i p j = record { shift = shift_of s i p j; reach = reach_of s i p j; time = (moved s i p j).time }

-- What counting lawful rows may rest on: some cell has the energy, and up is the energy's cells.
pub record Counts (f : Frame) (energy up : ℕ) : Type 0 where
  pub enough : energy ≤ f.head.energy_budget
  pub raised : up ≡ ceil_div energy f.head.energy_step

-- The l × l moves of job i, by level left and then level entered. What stands beside them is open.
pub record Moves (s : Sheet) (i : ℕ) (moves : List (List Move)) : Type 0 where
  pub each : (p j : ℕ) → p < s.levels → j < s.levels → move_at moves p j ≡ move_of s i p j
