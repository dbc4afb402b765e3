-- A move's figures: with the energy for it a move stays on the energy axis, as a number of whole steps more is as many cells more, and so
-- its shift and its reach are those of a level's words.
-- Assumes nothing.
use mathlib.Core.Path.{◌≡◌, refl}
use Prim.Native.Nat.{ℕ, ◌+◌, ◌*◌, ◌-◌, ◌/◌, ◌≤◌, ◌<◌}
use native.Mathlib.Nat.{add-mul, mul-add-div_right, div-mul-le_self, mul-le-mul_right}
use native.Mathlib.Decide.{dec_lt}
use native.Mathlib.Omega.{arith}
use borrow.Author.Tests.{lt-ltb, le-ltb}
use Rattle.thermal.specs.Rounding.{ceil_div}
use Rattle.frame.specs.Sheet.{Sheet, Ranges, job_most}
use Rattle.frame.specs.Run.{change, job, step}
use Rattle.frame.specs.Table.{energy_cells, temperature_cells}
use Rattle.frame.proofs.Table.{energy_cell}
use Rattle.table.specs.Table.{cells}
use Rattle.moves.specs.Moves.{moved, shift_of, reach_of}

-- A number of whole steps more.
pub ceil_add : (a e g : ℕ) → 0 < g → ceil_div (a * g + e) g ≡ a + ceil_div e g
unfolding ceil_div
ceil_add a e g h =
    let z : a * g + e + (g - 1) ≡ a * g + (e + (g - 1)) = omega arith in
    rw z (mul-add-div_right h a (e + (g - 1)))

module _ (s : Sheet) (ok : Ranges s) (i p j : ℕ) where
  abbrev energy : ℕ
  energy = (moved s i p j).energy

  abbrev rows : ℕ
  rows = (s.energy_budget - energy) / s.energy_step

  -- Some cell has the energy.
  module _ (some : energy ≤ s.energy_budget) where
    pub reach_is : reach_of s i p j ≡ (rows + 1) * temperature_cells s
    unfolding reach_of
    reach_is = rw (le-ltb s.energy_budget energy some) refl

    pub shift_is : shift_of s i p j ≡ ceil_div energy s.energy_step * temperature_cells s
    unfolding shift_of
    shift_is = rw (le-ltb s.energy_budget energy some) refl

  -- No cell has it.
  pub reach_none : s.energy_budget < energy → reach_of s i p j ≡ 0
  unfolding reach_of
  reach_none h = rw (lt-ltb s.energy_budget energy h) refl

  pub shift_none : s.energy_budget < energy → shift_of s i p j ≡ 0
  unfolding shift_of
  shift_none h = rw (lt-ltb s.energy_budget energy h) refl

  -- An energy cell with the energy leads to one of the axis.
  pub axis_on : (a : ℕ) → a * s.energy_step + energy ≤ s.energy_budget → a + ceil_div energy s.energy_step < energy_cells s
  axis_on a h = omega (arith, energy_cell s ok (a * s.energy_step + energy) h, ceil_add a energy s.energy_step ok.energy_step.low)

  -- A move leads from its reach to at most the end of the axis.
  pub reach_shift : reach_of s i p j + shift_of s i p j ≤ cells s
  unfolding cells
  reach_shift =
      elim (dec_lt s.energy_budget energy) [
        | yes h ↦ omega (arith, reach_none h, shift_none h)
        | no h ↦
            let e : energy ≤ s.energy_budget = omega arith in
            let l : rows * s.energy_step + energy ≤ s.energy_budget = omega (arith, div-mul-le_self (s.energy_budget - energy) s.energy_step) in
            let k : rows + 1 + ceil_div energy s.energy_step ≤ energy_cells s = omega (arith, axis_on rows l) in
            omega (arith, reach_is e, shift_is e, add-mul (rows + 1) (ceil_div energy s.energy_step) (temperature_cells s), mul-le-mul_right (temperature_cells s) k)
      ]

module _ (s : Sheet) (ok : Ranges s) (i p j : ℕ) where
  pub moved_time : (moved s i p j).time ≤ job_most
  unfolding step change job
  moved_time = omega (arith, ok.change_time p j, ok.job_time i j)
