-- Cells of the table: where their words stand, that their energy and temperature are small, as both axes end with a raised limit, and
-- that a filled table holds their words.
-- Assumes nothing.
use mathlib.Core.Path.{refl, ap, ◌∙◌}
use mathlib.Core.List.{List}
use Prim.Native.Nat.{ℕ, ◌+◌, ◌*◌, ◌≤◌, ◌<◌}
use native.Mathlib.Nat.{mul_assoc, mul-le-mul, mul-le-mul_right, zero-add}
use native.Mathlib.Omega.{arith}
use lib.ListN.{length, drop, get_or-append}
use Rattle.thermal.specs.Thermal.{raised_temperature_max}
use Rattle.frame.specs.Sheet.{Sheet, Ranges}
use Rattle.thermal.specs.Rounding.{ceil_div, raise}
use Rattle.thermal.proofs.Rounding.{raise_le, raise_multiple, raise_warmest}
use Rattle.frame.specs.Run.{raised}
use Rattle.run.specs.declared.Run.{Run}
use Rattle.frame.specs.Table.{energy_cells, temperature_cells, need, place, cell, word_at, tabulate, filled, words_max}
use Rattle.frame.proofs.Table.{place_lt, word_at_place}
use Rattle.frame.proofs.Tabulate.{length_tabulate, get_d_tabulate}
use Rattle.table.specs.declared.axes.Frame.{Frame}
use Rattle.table.specs.Table.{raised_energy_max, Axes, AtCell, Raises, cells, Holds}

module _ (s : Sheet) where
  -- The words of m jobs done come after those of fewer.
  pub place_from : (m p a b : ℕ) → m * s.levels * energy_cells s * temperature_cells s ≤ place s m p a b
  unfolding place
  place_from m p a b =
      let r : m * s.levels ≤ m * s.levels + p = omega arith in
      let q : m * s.levels * energy_cells s ≤ (m * s.levels + p) * energy_cells s + a = omega (arith, mul-le-mul_right (energy_cells s) r) in
      omega (arith, mul-le-mul_right (temperature_cells s) q)

-- A cell's energy and temperature are small.
module _ (s : Sheet) (ok : Ranges s) where
  pub cell_energy : (a : ℕ) → a < energy_cells s → a * s.energy_step ≤ raised_energy_max
  unfolding energy_cells raise
  cell_energy a h =
      let l : a ≤ ceil_div s.energy_budget s.energy_step = omega arith in
      omega (arith, mul-le-mul_right s.energy_step l, raise_le s.energy_step s.energy_budget, ok.energy_budget, ok.energy_step)

  pub cell_temperature : (b : ℕ) → b < temperature_cells s → b * s.temperature_step ≤ raised_temperature_max
  unfolding temperature_cells raise
  cell_temperature b h =
      let l : b ≤ ceil_div s.temperature_limit s.temperature_step = omega arith in
      omega (arith, mul-le-mul_right s.temperature_step l, raise_warmest s.temperature_step s.temperature_limit ok.temperature_step.low ok.temperature_step.high ok.temperature_limit)

  pub at_cell : (i p a b : ℕ) → i < s.jobs → p < s.levels → a < energy_cells s → b < temperature_cells s → AtCell s (cell s i p a b)
  unfolding raised
  at_cell i p a b hi hp ha hb =
      record {
        anew = refl;
        up = rw (raise_multiple s.energy_step a ok.energy_step.low, raise_multiple s.temperature_step b ok.temperature_step.low) refl;
        done = hi;
        level = hp;
        energy = cell_energy a ha;
        temperature = cell_temperature b hb;
      }

-- A level has at most as many words as a table.
module _ {s : Sheet} {f : Frame} (g : Axes s f) where
  pub cells_small : cells s ≤ words_max
  unfolding cells need
  cells_small =
      let m : 1 ≤ s.jobs * s.levels = mul-le-mul g.ranges.jobs.low g.ranges.levels.low in
      omega (arith, g.allowed, mul-le-mul_right (energy_cells s * temperature_cells s) m, mul_assoc (s.jobs * s.levels) (energy_cells s) (temperature_cells s))

-- A filled table holds the words of all jobs.
pub filled_words : (s : Sheet) (old : List ℕ) (i : ℕ) → need s ≤ length old → Holds s (filled s old) i
unfolding filled need
filled_words s old i room =
    record {
      words = λ h p x y hp hx hy.
          let k = place s i p x y in
          let l : k < need s = place_lt s i p x y hp hx hy s.jobs h in
          get_or-append (tabulate (word_at s) 0 (need s)) (drop (need s) old) 0 k (omega (arith, length_tabulate (word_at s) 0 (need s)))
          ∙ get_d_tabulate (word_at s) 0 (need s) k l ∙ ap (word_at s) (zero-add k) ∙ word_at_place s i p x y hp hx hy;
    }

-- A run within the limits can be raised.
pub raises : {s : Sheet} → Ranges s → (b : Run) → b.energy ≤ s.energy_budget → b.temperature ≤ s.temperature_limit → Raises b
raises ok b u v = record { energy = omega (arith, u, ok.energy_budget); temperature = omega (arith, v, ok.temperature_limit) }
