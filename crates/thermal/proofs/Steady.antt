-- Laws of the steady-state temperature. What lies above this crate knows it by these alone; the worked cases compute with its text.
-- Assumes nothing.
use mathlib.Core.Path.{◌≡◌, sym}
use mathlib.Core.Logic.{◌≢◌}
use Prim.Native.Nat.{ℕ, ◌+◌, ◌*◌, ◌/◌, ◌%◌, ◌≤◌, ◌<◌}
use native.Mathlib.Nat.{le_antisymm}
use native.Mathlib.Decide.{dec_le, dec_lt, ℕ_discrete}
use native.Mathlib.Omega.{arith}
use Rattle.thermal.specs.Thermal.{steady_state, distance, NearestEven}
use Rattle.thermal.proofs.Rounded.{Rounded, steady_rounded}

-- A number that is not on an exact half lies less than a half away.
within_half : (x s : ℕ) → x % 10000 ≢ 5000 → s ≡ (x + 5000) / 10000 → distance x s < 5000
within_half x s e q = elim (dec_lt (x % 10000) 5000) [ yes l ↦ omega arith | no l ↦ omega arith ]

rounded_nearest : (x s : ℕ) → Rounded x s → NearestEven x s
rounded_nearest x s h =
    elim (ℕ_discrete (x % 10000) 5000) [
      | yes e ↦ let q = h.half e in record { none_nearer = λ k. omega arith; even = λ k n d. omega arith }
      | no e ↦
          let q = within_half x s e (h.other e) in
          record { none_nearer = λ k. omega arith; even = λ k n d. absurd (omega arith) }
    ]

-- The steady-state temperature is the nearest whole number, an exact half the even one.
pub steady_nearest : (p r : ℕ) → NearestEven (p * r) (steady_state p r)
steady_nearest p r = rounded_nearest (p * r) (steady_state p r) (steady_rounded p r)

-- Two whole numbers as near lie next to each other, and only one of them is even.
not_below : (x s t : ℕ) → NearestEven x s → NearestEven x t → s < t → ⊥
not_below x s t h g l =
    let as_near : distance x t ≡ distance x s = omega (arith, h.none_nearer t, g.none_nearer s) in
    let next : t ≡ s + 1 = omega (arith, h.none_nearer (s + 1)) in
    omega (arith, h.even t (λ e. omega arith) as_near, g.even s (λ e. omega arith) (sym as_near))

at_most : (x s t : ℕ) → NearestEven x s → NearestEven x t → s ≤ t
at_most x s t h g = elim (dec_le s t) [ yes l ↦ l | no l ↦ absurd (not_below x t s g h (omega arith)) ]

-- The words leave no other number.
pub steady_only : (p r s : ℕ) → NearestEven (p * r) s → s ≡ steady_state p r
steady_only p r s h =
    let t = steady_state p r in
    let g = steady_nearest p r in
    le_antisymm (at_most _ s t h g) (at_most _ t s g h)

-- Where P × R / 10,000 is at most a whole number, so is the steady-state temperature.
pub steady_within : (p r n : ℕ) → p * r ≤ 10000 * n → steady_state p r ≤ n
steady_within p r n h = omega (arith, (steady_nearest p r).none_nearer n)
