-- The two products are the raised values, and fit 32 bits: a raised value is less than one step more.
use mathlib.Core.Path.{◌≡◌, ap, ap₂, ◌∙◌}
use Prim.Native.Nat.{ℕ, ◌+◌, ◌*◌, ◌-◌, ◌≤◌}
use native.Mathlib.Omega.{arith}
use Rattle.thermal.specs.Rounding.{ceil_div, raise}
use Rattle.thermal.proofs.Rounding.{raise_le}
use Rattle.frame.specs.Run.{fresh}
use Rattle.walk.proofs.raise_run.Goals as goal

-- What a call gives, times the step, is the raised value: less than one step above it.
raised : (g x q : ℕ) → q ≡ ceil_div x g → q * g ≡ raise g x
unfolding raise
raised g x q e = ap (λ (k : ℕ). k * g) e

small : (g x q : ℕ) → q ≡ ceil_div x g → q * g ≤ x + (g - 1)
small g x q e = omega (arith, raised g x q e, raise_le g x)

pub overflow_mul-energy : goal.overflow_mul-energy
overflow_mul-energy c = omega (arith, small _ _ _ c.energy_cell.ensures, c.requires.energy, c.args.f.bounded.energy_step)

pub overflow_mul-temperature : goal.overflow_mul-temperature
overflow_mul-temperature c = omega (arith, small _ _ _ c.temperature_cell.ensures, c.requires.temperature, c.args.f.bounded.temperature_step)

pub returns : goal.returns
returns c = c.fresh.ensures ∙ ap₂ (fresh _ _) (raised _ _ _ c.energy_cell.ensures) (raised _ _ _ c.temperature_cell.ensures)
