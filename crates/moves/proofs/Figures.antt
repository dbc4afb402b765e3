-- A move that the code works out, by the axes that it has: it is the definition's, and fits a word.
-- Assumes nothing.
use mathlib.Core.Path.{◌≡◌, refl, ap}
use Prim.Native.Nat.{ℕ, ◌+◌, ◌*◌, ◌-◌, ◌/◌, ◌≤◌, ◌<◌}
use native.Mathlib.Omega.{arith}
use Rattle.thermal.specs.Rounding.{ceil_div}
use Rattle.frame.specs.Sheet.{Sheet}
use Rattle.frame.specs.Table.{words_max}
use Rattle.table.specs.declared.axes.Frame.{Frame}
use Rattle.table.specs.Table.{Axes}
use Rattle.table.proofs.Frames.{temperature_count}
use Rattle.table.proofs.Cells.{cells_small}
use Rattle.open_ways.specs.declared.Move.{Move}
use Rattle.moves.specs.Moves.{moved, move_of}
use Rattle.moves.proofs.Reach.{reach_is, shift_is, reach_none, shift_none, reach_shift}

-- ---- one move

module _ {s : Sheet} {f : Frame} (g : Axes s f) (i p j : ℕ) (energy time : ℕ) (e : energy ≡ (moved s i p j).energy) (t : time ≡ (moved s i p j).time) where
  pub move_none : f.head.energy_budget < energy → record { shift = 0; reach = 0; time = time } ≡ move_of s i p j
  move_none h =
      let w : s.energy_budget < (moved s i p j).energy = omega (arith, h, e, g.energy_budget) in
      rw (shift_none s g.ranges i p j w, reach_none s g.ranges i p j w, t) refl

  pub move_some : energy ≤ f.head.energy_budget → (up rows : ℕ) → up ≡ ceil_div energy f.head.energy_step →
      rows ≡ (f.head.energy_budget - energy) / f.head.energy_step + 1 →
      record { shift = up * f.temperature_cells; reach = rows * f.temperature_cells; time = time } ≡ move_of s i p j
  move_some h up rows y z =
      let w : (moved s i p j).energy ≤ s.energy_budget = omega (arith, h, e, g.energy_budget) in
      rw (shift_is s g.ranges i p j w, reach_is s g.ranges i p j w, y, z, e, t, g.energy_budget, g.energy_step, temperature_count g) refl

module _ {s : Sheet} {f : Frame} (g : Axes s f) where
  -- The figures of a move fit a word.
  pub move_small : (i p j : ℕ) (m : Move) → m ≡ move_of s i p j → (m.shift ≤ words_max) × (m.reach ≤ words_max)
  move_small i p j m e =
      let l = reach_shift s g.ranges i p j in
      (omega (arith, ap (λ (q : Move). q.shift) e, l, cells_small g), omega (arith, ap (λ (q : Move). q.reach) e, l, cells_small g))
