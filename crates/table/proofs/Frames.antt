-- The cells of a frame's axes: how many they are at least and at most, and that they are those of a sheet of the same limits and steps.
-- Assumes nothing.
use mathlib.Core.Path.{◌≡◌}
use Prim.Native.Nat.{ℕ, ◌+◌, ◌≤◌, ◌<◌}
use native.Mathlib.Nat.{le-mul_of_pos_right}
use native.Mathlib.Omega.{arith}
use Rattle.thermal.specs.Rounding.{ceil_div}
use Rattle.thermal.proofs.Rounding.{ceil_least}
use Rattle.frame.specs.Sheet.{Sheet, limit_max, temperature_max}
use Rattle.frame.specs.Table.{energy_cells, temperature_cells}
use Rattle.table.specs.declared.axes.Frame.{Frame}
use Rattle.table.specs.Table.{Axes}

-- A quotient that is rounded up is no larger than what is divided.
ceil_most : (x k : ℕ) → 0 < k → ceil_div x k ≤ x
ceil_most x k h = (ceil_least x k x h).1 (le-mul_of_pos_right x h)

module _ (f : Frame) where
  pub rows_some : 1 ≤ f.energy_cells
  rows_some = omega (arith, f.rows)

  pub columns_some : 1 ≤ f.temperature_cells
  columns_some = omega (arith, f.columns)

  pub rows_most : f.energy_cells ≤ limit_max + 1
  rows_most = omega (arith, f.rows, ceil_most f.head.energy_budget f.head.energy_step f.bounded.energy_step.low, f.bounded.energy_budget)

  pub columns_most : f.temperature_cells ≤ temperature_max + 1
  columns_most =
      omega (arith, f.columns, ceil_most f.head.temperature_limit f.head.temperature_step f.bounded.temperature_step.low, f.bounded.temperature_limit)

module _ {s : Sheet} {f : Frame} (g : Axes s f) where
  pub energy_count : f.energy_cells ≡ energy_cells s
  unfolding energy_cells
  energy_count = rw (← g.energy_budget, ← g.energy_step) f.rows

  pub temperature_count : f.temperature_cells ≡ temperature_cells s
  unfolding temperature_cells
  temperature_count = rw (← g.temperature_limit, ← g.temperature_step) f.columns
