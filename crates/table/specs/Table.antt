-- What the code that fills and reads the table speaks of (document 01, 'The rounded run and the table'): the frame that is handed
-- over and its sheet, its axes, a cell and where its words stand.
-- Assumes nothing.
use Rattle.std.specs.Prelude.{◌≡◌, List, ℕ, ◌+◌, ◌*◌, ◌≤◌, ◌<◌, get_or}
use Rattle.thermal.specs.Thermal.{raised_temperature_max}
use Rattle.frame.specs.Sheet.{Sheet, Ranges, limit_max}
use Rattle.frame.specs.Run.{State, fresh, raised}
use Rattle.frame.specs.Table.{energy_cells, temperature_cells, need, words_max, place, word}
use Rattle.run.specs.declared.Run.{Run}
use Rattle.store.specs.declared.Store.{Store}
use Rattle.step.specs.Store.{Stored}
use Rattle.table.specs.declared.axes.Frame.{Frame}
use Rattle.table.specs.declared.axes.HeadAxes.{HeadAxes}

-- A raised energy is below W and one step more, each at most 2,000,000,000.
abbrev pub raised_energy_max : ℕ
raised_energy_max = limit_max + limit_max

-- The head and the axes of a frame.
abbrev pub head_axes : Frame → HeadAxes
head_axes f = record { head = f.head; energy_cells = f.energy_cells; temperature_cells = f.temperature_cells }

-- The frame is that of the sheet, and its axes those of the sheet's table, "allowed" in size.
pub record Axes (s : Sheet) (f : Frame) : Type 0 where
  pub ranges : Ranges s
  pub jobs : f.head.jobs ≡ s.jobs
  pub levels : f.head.levels ≡ s.levels
  pub energy_budget : f.head.energy_budget ≡ s.energy_budget
  pub temperature_limit : f.head.temperature_limit ≡ s.temperature_limit
  pub energy_step : f.head.energy_step ≡ s.energy_step
  pub temperature_step : f.head.temperature_step ≡ s.temperature_step
  pub allowed : need s ≤ words_max

-- What is handed over is the sheet's: the axes, and the figures in the store and in the list of steady-state temperatures.
pub record Framed (s : Sheet) (f : Frame) (store : Store) (steady : List ℕ) : Type 0 where
  pub axes : Axes s f
  pub stored : Stored s store steady

-- A state at a cell: raised, with a job to do, and time and peak counted from there.
pub record AtCell (s : Sheet) (a : State) : Type 0 where
  pub anew : a ≡ fresh a.done a.level a.energy a.temperature
  pub up : raised s a ≡ a
  pub done : a.done < s.jobs
  pub level : a.level < s.levels
  pub energy : a.energy ≤ raised_energy_max
  pub temperature : a.temperature ≤ raised_temperature_max

-- What raising a run may rest on, in 32 bits.
pub record Raises (b : Run) : Type 0 where
  pub energy : b.energy ≤ limit_max
  pub temperature : b.temperature ≤ limit_max

-- The words of one number of jobs done and one level before.
unfoldable pub cells : Sheet → ℕ
cells s = energy_cells s * temperature_cells s

-- Where they begin.
unfoldable pub base : Sheet → ℕ → ℕ → ℕ
base s i p = place s i p 0 0

-- The table holds the words of i jobs done.
pub record Holds (s : Sheet) (table : List ℕ) (i : ℕ) : Type 0 where
  pub words : i < s.jobs → (p x y : ℕ) → p < s.levels → x < energy_cells s → y < temperature_cells s →
      get_or table (place s i p x y) 0 ≡ word s i p x y
