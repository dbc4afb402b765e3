-- The same by word of a level: a move leads from the first words, up to its reach, as many words on as its shift, as a word's number is
-- its energy cell and then its temperature cell.
-- Assumes nothing.
use mathlib.Core.Path.{◌≡◌}
use Prim.Native.Nat.{ℕ, ◌+◌, ◌*◌, ◌-◌, ◌/◌, ◌%◌, ◌≤◌, ◌<◌, min}
use native.Mathlib.Nat.{add-mul-div_right, add-mul-mod_self_right, le-div_iff_mul-le, div-lt_iff_lt-mul}
use native.Mathlib.Decide.{dec_lt}
use native.Mathlib.Omega.{arith}
use Rattle.thermal.specs.Rounding.{ceil_div}
use Rattle.frame.specs.Sheet.{Sheet, Ranges}
use Rattle.frame.specs.Table.{energy_cells, temperature_cells}
use Rattle.table.specs.Table.{cells}
use Rattle.moves.specs.Moves.{moved, shift_of, reach_of}
use Rattle.moves.proofs.Reach.{reach_is, shift_is, reach_none, axis_on}
use Rattle.follow.specs.Follow.{follows_at}
use Rattle.table.proofs.Places.{width_some, energy_of, temperature_of}
use Rattle.fill.specs.Layer.{up_to_at}
use Rattle.fill.proofs.Moving.{up_lawful, up_unlawful}

module _ (s : Sheet) (ok : Ranges s) (i p j : ℕ) where
  abbrev energy : ℕ
  energy = (moved s i p j).energy

  abbrev rows : ℕ
  rows = (s.energy_budget - energy) / s.energy_step

  module _ (y : ℕ) where
    abbrev row : ℕ
    row = y / temperature_cells s

    lawful : y < reach_of s i p j → (energy ≤ s.energy_budget) × (row * s.energy_step + energy ≤ s.energy_budget)
    lawful h =
        elim (dec_lt s.energy_budget energy) [
          | yes g ↦ absurd (omega (arith, reach_none s ok i p j g))
          | no g ↦
              let e : energy ≤ s.energy_budget = omega arith in
              let k : row < rows + 1 = (div-lt_iff_lt-mul (width_some s)).1 (rw (reach_is s ok i p j e) at h) in
              let l : row * s.energy_step ≤ s.energy_budget - energy = (le-div_iff_mul-le ok.energy_step.low).0 (omega (arith, k)) in
              (e, omega (arith, l))
        ]

    unlawful : reach_of s i p j ≤ y → s.energy_budget < row * s.energy_step + energy
    unlawful h =
        elim (dec_lt s.energy_budget energy) [
          | yes g ↦ omega arith
          | no g ↦
              let e : energy ≤ s.energy_budget = omega arith in
              let k : rows + 1 ≤ row = (le-div_iff_mul-le (width_some s)).1 (rw (reach_is s ok i p j e) at h) in
              elim (dec_lt s.energy_budget (row * s.energy_step + energy)) [
                | yes l ↦ l
                | no l ↦ absurd (omega (arith, k, (le-div_iff_mul-le {x = row} {y = s.energy_budget - energy} ok.energy_step.low).1 (omega arith)))
              ]
        ]

    module _ (h : y < reach_of s i p j) where
      shifted : shift_of s i p j ≡ ceil_div energy s.energy_step * temperature_cells s
      shifted = shift_is s ok i p j (lawful h).0

      row_on : (y + shift_of s i p j) / temperature_cells s ≡ row + ceil_div energy s.energy_step
      row_on = rw shifted (add-mul-div_right y (ceil_div energy s.energy_step) (width_some s))

      cell_on : (y + shift_of s i p j) % temperature_cells s ≡ y % temperature_cells s
      cell_on = rw shifted (add-mul-mod_self_right y (ceil_div energy s.energy_step) (temperature_cells s))

      -- A move stays on the axis.
      pub shift_within : y + shift_of s i p j < cells s
      unfolding cells
      shift_within =
          let k : (y + shift_of s i p j) / temperature_cells s < energy_cells s = rw row_on (axis_on s ok i p j row (lawful h).1) in
          (div-lt_iff_lt-mul (width_some s)).0 k

      module _ (hi : i < s.jobs) (hp : p < s.levels) (hj : j < s.levels) (hy : y < cells s) where
        pub up_reach : up_to_at s i p (j + 1) y ≡ min (up_to_at s i p j y) ((moved s i p j).time + follows_at s i j (y + shift_of s i p j))
        up_reach = rw (row_on, cell_on) (up_lawful s ok i p j row (y % temperature_cells s) hi hp hj (energy_of s y hy) (temperature_of s y) (lawful h).1)

    pub up_beyond : i < s.jobs → p < s.levels → j < s.levels → y < cells s → reach_of s i p j ≤ y → up_to_at s i p (j + 1) y ≡ up_to_at s i p j y
    up_beyond hi hp hj hy h = up_unlawful s ok i p j row (y % temperature_cells s) hi hp hj (energy_of s y hy) (temperature_of s y) (unlawful h)
