-- The place is the definition's, by what the two quotients give; no part of it overflows, as none is larger than the whole.
use mathlib.Core.Path.{◌≡◌, refl}
use Prim.Native.Nat.{ℕ, ◌+◌, ◌*◌, ◌<◌}
use native.Mathlib.Nat.{le-mul_of_pos_right}
use native.Mathlib.Omega.{arith}
use Rattle.thermal.specs.Rounding.{ceil_div}
use Rattle.frame.specs.Table.{words_max}
use Rattle.run.specs.declared.Run.{Run}
use Rattle.table.specs.declared.axes.HeadAxes.{HeadAxes}
use Rattle.lookup.specs.Lookup.{Steps, place_by}
use Rattle.lookup.proofs.place_of.Goals as goal

-- The parts of a run's place, from the inside out, with a and t for the two cells.
record Parts (f : HeadAxes) (b : Run) (a t : ℕ) : Type 0 where
  job_level : b.done * f.head.levels + b.level < words_max
  energy_row : (b.done * f.head.levels + b.level) * f.energy_cells + a < words_max
  whole : ((b.done * f.head.levels + b.level) * f.energy_cells + a) * f.temperature_cells + t < words_max
  place : ((b.done * f.head.levels + b.level) * f.energy_cells + a) * f.temperature_cells + t ≡ place_by f b

parts : {f : HeadAxes} {b : Run} {a t : ℕ} → Steps f b → a ≡ ceil_div b.energy f.head.energy_step → t ≡ ceil_div b.temperature f.head.temperature_step → Parts f b a t
unfolding place_by
parts {f} {b} {a} {t} s p q =
    let k : ((b.done * f.head.levels + b.level) * f.energy_cells + a) * f.temperature_cells + t < words_max = rw (p, q) s.allowed in
    let o : (b.done * f.head.levels + b.level) * f.energy_cells + a < words_max =
    omega (arith, k, le-mul_of_pos_right ((b.done * f.head.levels + b.level) * f.energy_cells + a) s.temperature_count) in
    record {
      job_level = omega (arith, o, le-mul_of_pos_right (b.done * f.head.levels + b.level) s.energy_count);
      energy_row = o;
      whole = k;
      place = rw (p, q) refl;
    }

pub overflow_mul-result : goal.overflow_mul-result
overflow_mul-result c = omega (arith, parts c.requires c.energy_cell-a.ensures c.temperature_cell-t.ensures)

pub overflow_add-result : goal.overflow_add-result
overflow_add-result c = omega (arith, parts c.requires c.energy_cell-a.ensures c.temperature_cell-t.ensures)

pub overflow_mul-result-2 : goal.overflow_mul-result-2
overflow_mul-result-2 c = omega (arith, parts c.requires c.energy_cell-a.ensures c.temperature_cell-t.ensures)

pub overflow_add-result-2 : goal.overflow_add-result-2
overflow_add-result-2 c = omega (arith, parts c.requires c.energy_cell-a.ensures c.temperature_cell-t.ensures)

pub returns : goal.returns
returns c = (parts c.requires c.energy_cell-a.ensures c.temperature_cell-t.ensures).place
