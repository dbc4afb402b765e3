-- What the planner makes of the head of a sheet before it plans. The table's axes and the need depend on the head alone, so that any
-- store gives them.
-- Assumes nothing.
use Rattle.frame.specs.Sheet.{Sheet, Ranges}
use Rattle.frame.specs.Table.{energy_cells, temperature_cells}
use Rattle.store.specs.declared.Head.{Head}
use Rattle.store.specs.declared.Store.{Store}
use Rattle.store.specs.Figures.{clear, sheet_of}
use Rattle.table.specs.declared.axes.HeadAxes.{HeadAxes}

-- The head is that of a sheet in its ranges.
pub record Lawful (h : Head) : Type 0 where
  pub store : Store
  pub ranges : Ranges (sheet_of h store)

-- A sheet of this head.
abbrev pub bare : Head → Sheet
bare h = sheet_of h clear

-- The head, and the cells of the axes of its sheet's table.
abbrev pub axes_of : Head → HeadAxes
axes_of h = record { head = h; energy_cells = energy_cells (bare h); temperature_cells = temperature_cells (bare h) }
