-- The library's quotient, rounded up, is the definition's: both are the least number whose n-fold is not below x.
-- Assumes nothing.
use mathlib.Core.Path.{◌≡◌}
use Prim.Native.Nat.{ℕ, ◌<◌}
use native.Mathlib.Nat.{le_antisymm, le-div_iff_mul-le}
use native.Mathlib.Omega.{arith}
use Rattle.std.specs.Int.{div_ceil}
use Rattle.std.proofs.lemmas.Grind.{div_ceil_times}
use Rattle.thermal.specs.Rounding.{ceil_div}
use Rattle.thermal.proofs.Rounding.{ceil_least}

pub rounded_up : (x n : ℕ) → 0 < n → div_ceil x n ≡ ceil_div x n
unfolding ceil_div
rounded_up x n p =
    let t = div_ceil_times x n p in
    le_antisymm ((le-div_iff_mul-le p).1 (omega (arith, t.1))) ((ceil_least x n (div_ceil x n) p).1 t.0)
