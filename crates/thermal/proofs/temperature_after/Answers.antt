-- `thermal::temperature_after` meets its contract: with the figures that it may rest on, 32 bits hold the largest sum, and so each
-- product and each part of it.
-- Assumes nothing.
use native.Mathlib.Omega.{arith}
use Rattle.thermal.specs.Rounding.{ceil_div}
use Rattle.thermal.specs.Thermal.{temperature_after}
use Rattle.thermal.proofs.Thermal.{rule_sum}
use Rattle.thermal.proofs.temperature_after.Goals as goal

pub overflow_mul-sum : goal.overflow_mul-sum
overflow_mul-sum c = omega (arith, rule_sum c.args.temperature c.args.steady c.args.decay c.requires)

pub overflow_mul-sum-2 : goal.overflow_mul-sum-2
overflow_mul-sum-2 c = omega (arith, rule_sum c.args.temperature c.args.steady c.args.decay c.requires)

pub overflow_add-sum : goal.overflow_add-sum
overflow_add-sum c = omega (arith, rule_sum c.args.temperature c.args.steady c.args.decay c.requires)

pub returns : goal.returns
unfolding temperature_after ceil_div
returns c = omega arith
