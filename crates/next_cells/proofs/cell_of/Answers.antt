-- The cell is the definition's: within the limit the upper half of a product is the quotient (`Multiplied`), and above it B.
use mathlib.Core.Path.{◌≡◌, refl, ap, ◌∙◌}
use Prim.Native.Nat.{ℕ, ◌+◌, ◌*◌, ◌-◌, ◌/◌, ◌≤◌}
use native.Mathlib.Nat.{mul-le-mul, div-le_self}
use native.Mathlib.Omega.{arith}
use borrow.Author.Tests.{le-leb, lt-leb}
use Rattle.thermal.specs.Rounding.{ceil_div}
use Rattle.table.proofs.Frames.{columns_most}
use Rattle.next_cells.specs.Next.{scale}
use Rattle.next_cells.proofs.Multiplied.{multiplied}
use Rattle.next_cells.proofs.cell_of.Goals as goal

-- The number that is divided is small.
few : (c : goal.After-struct_known-then-t-f-1) → let a = c.args in a.t + (a.f.head.temperature_step - 1) ≤ 100000
few c = omega (arith, c.if-t-f.true, c.args.f.bounded.temperature_limit, c.args.f.bounded.temperature_step)

-- The product's upper half is the quotient.
quotient : (c : goal.After-struct_known-then-t-f-1) → let a = c.args in
    (a.t + (a.f.head.temperature_step - 1)) * a.multiplier / scale ≡ (a.t + (a.f.head.temperature_step - 1)) / a.f.head.temperature_step
quotient c =
    let a = c in
    let n = a.args.t + (a.args.f.head.temperature_step - 1) in
    ap (λ (m : ℕ). n * m / scale) a.requires ∙ multiplied n _ a.args.f.bounded.temperature_step.low a.args.f.bounded.temperature_step.high (few c)

pub overflow_mul-result : goal.overflow_mul-result
overflow_mul-result c =
    let a = c in
    let m : a.args.multiplier ≤ scale = omega (arith, a.requires, div-le_self 4294967295 a.args.f.head.temperature_step) in
    omega (arith, mul-le-mul (few c) m)

pub overflow_cast-result : goal.overflow_cast-result
overflow_cast-result c =
    let a = c.args in
    omega (arith, quotient c, few c, div-le_self (a.t + (a.f.head.temperature_step - 1)) a.f.head.temperature_step)

pub overflow_cast-result-2 : goal.overflow_cast-result-2
overflow_cast-result-2 c = omega (arith, columns_most c.args.f)

pub returns-then-t-f : goal.returns-then-t-f
unfolding ceil_div
returns-then-t-f c = let a = c.args in rw (le-leb a.t a.f.head.temperature_limit (omega (arith, c.if-t-f.true))) (quotient c)

pub returns : goal.returns
returns c = let a = c.args in rw (lt-leb a.t a.f.head.temperature_limit (omega (arith, c.if-t-f.false))) refl
