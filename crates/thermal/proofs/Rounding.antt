-- Laws of rounding up. `ceil_least` is the definition in words; the others but `raise_le` rest on it.
-- Assumes nothing.
use mathlib.Core.Logic.{◌↔◌}
use mathlib.Core.Path.{◌≡◌}
use Prim.Native.Nat.{ℕ, suc, ◌+◌, ◌*◌, ◌-◌, ◌≤◌, ◌<◌}
use native.Mathlib.Nat.{le_refl, le_antisymm, mul-le-mul_right, div-mul-le_self, lt-div-mul-add, div-lt_iff_lt-mul, zero-mul}
use native.Mathlib.Decide.{dec_le}
use native.Mathlib.Omega.{arith}
use Rattle.thermal.specs.Thermal.{raised_temperature_max}
use Rattle.thermal.specs.Rounding.{ceil_div, raise}

-- x / n rounded up is the least whole number whose n-fold is not below x.
pub ceil_least : (x n q : ℕ) → 0 < n → (ceil_div x n ≤ q) ↔ (x ≤ q * n)
unfolding ceil_div
ceil_least x n q p = (
  λ h. omega (arith, lt-div-mul-add {a = x + (n - 1)} p, mul-le-mul_right n h),
  λ h. let l : x + (n - 1) < suc q * n = omega arith in omega (arith, (div-lt_iff_lt-mul p).1 l),
)

pub ceil_mono : (x y n : ℕ) → 0 < n → x ≤ y → ceil_div x n ≤ ceil_div y n
ceil_mono x y n p h = (ceil_least x n (ceil_div y n) p).1 (omega (arith, (ceil_least y n (ceil_div y n) p).0 (le_refl _)))

-- A raised number is a multiple of the step, not below the number, and no such multiple is smaller.
pub raise_ge : (g x : ℕ) → 0 < g → x ≤ raise g x
unfolding raise
raise_ge g x p = (ceil_least x g (ceil_div x g) p).0 (le_refl _)

pub raise_least : (g x q : ℕ) → 0 < g → x ≤ q * g → raise g x ≤ q * g
unfolding raise
raise_least g x q p h = mul-le-mul_right g ((ceil_least x g q p).1 h)

-- Raising adds at most one less than the step.
pub raise_le : (g x : ℕ) → raise g x ≤ x + (g - 1)
unfolding raise ceil_div
raise_le g x = div-mul-le_self (x + (g - 1)) g

pub raise_mono : (g x y : ℕ) → 0 < g → x ≤ y → raise g x ≤ raise g y
unfolding raise
raise_mono g x y p h = mul-le-mul_right g (ceil_mono x y g p h)

-- A multiple stays.
pub raise_multiple : (g k : ℕ) → 0 < g → raise g (k * g) ≡ k * g
raise_multiple g k p = le_antisymm (raise_least g (k * g) k p (le_refl _)) (raise_ge g (k * g) p)

pub raise_zero : (g : ℕ) → 0 < g → raise g 0 ≡ 0
raise_zero g p = simp zero-mul at (raise_multiple g 0 p)

pub raise_twice : (g x : ℕ) → 0 < g → raise g (raise g x) ≡ raise g x
unfolding raise
raise_twice g x p = raise_multiple g (ceil_div x g) p

-- A temperature of at most 20,000, raised by a step of at most 20,000, is at most 39,998: what the thermal rule may rest on.
pub raise_warmest : (h t : ℕ) → 0 < h → h ≤ 20000 → t ≤ 20000 → raise h t ≤ raised_temperature_max
raise_warmest h t p l k =
    elim (dec_le t h) [
      | yes u ↦ omega (arith, raise_least h t 1 p (omega arith))
      | no u ↦ omega (arith, raise_le h t)
    ]
