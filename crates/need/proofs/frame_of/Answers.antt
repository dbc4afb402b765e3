-- The axes of a lawful head: neither step is 0.
use mathlib.Core.Path.{ap, ◌∙◌}
use Prim.Native.Nat.{ℕ, ◌+◌}
use native.Mathlib.Omega.{arith}
use Rattle.frame.specs.Table.{energy_cells, temperature_cells}
use Rattle.store.specs.Figures.{sheet_of}
use Rattle.table.proofs.Rounded.{rounded_up}
use Rattle.need.proofs.Axes.{bounded}
use Rattle.need.proofs.frame_of.Goals as goal

pub div_ceil-requires : goal.div_ceil-requires
div_ceil-requires c = let b = bounded c.args.head c.requires in omega (arith, b.energy_step)

pub div_ceil-requires-2 : goal.div_ceil-requires-2
div_ceil-requires-2 c = let b = bounded c.args.head c.requires in omega (arith, b.temperature_step)

pub invariant_of-result : goal.invariant_of-result
invariant_of-result c =
    let b = bounded c.args.head c.requires in
    record {
      bounded = b;
      rows = ap (λ (n : ℕ). n + 1) (c.div_ceil.ensures ∙ rounded_up _ _ b.energy_step.low);
      columns = ap (λ (n : ℕ). n + 1) (c.div_ceil-2.ensures ∙ rounded_up _ _ b.temperature_step.low);
    }

pub returns : goal.returns
unfolding sheet_of energy_cells temperature_cells
returns c =
    let b = bounded c.args.head c.requires in
    cc (c.div_ceil.ensures ∙ rounded_up _ _ b.energy_step.low, c.div_ceil-2.ensures ∙ rounded_up _ _ b.temperature_step.low)
