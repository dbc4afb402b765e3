-- `thermal::steady_state` meets its contract: the product of two 32-bit numbers leaves room for the half in 64 bits, and the one
-- division rounds as the definition does (`steady_divided`).
-- Assumes nothing.
use Prim.Native.Nat.{ℕ, ◌*◌, ◌≤◌}
use native.Mathlib.Nat.{mul-le-mul}
use native.Mathlib.Omega.{arith}
use Rattle.thermal.proofs.Rounded.{steady_divided}
use Rattle.thermal.proofs.steady_state.Goals as goal

product : (p r : ℕ) → p ≤ 4294967295 → r ≤ 4294967295 → p * r ≤ 4294967295 * 4294967295
product p r h k = mul-le-mul h k

pub overflow_mul-product : goal.overflow_mul-product
overflow_mul-product c = omega (arith, product c.args.power c.args.resistance (omega arith) (omega arith))

pub overflow_add-upper : goal.overflow_add-upper
overflow_add-upper c = omega (arith, product c.args.power c.args.resistance (omega arith) (omega arith))

pub overflow_add-result : goal.overflow_add-result
overflow_add-result c = omega (arith, product c.args.power c.args.resistance (omega arith) (omega arith))

pub returns : goal.returns
returns c = omega (arith, steady_divided c.args.power c.args.resistance)
