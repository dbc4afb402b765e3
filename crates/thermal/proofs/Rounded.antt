-- The steady-state temperature by cases and by one division: the laws between its definition and its code.
-- Assumes nothing.
use mathlib.Core.Path.{◌≡◌, refl}
use mathlib.Core.Logic.{◌≢◌}
use Prim.Native.Nat.{ℕ, ◌+◌, ◌*◌, ◌-◌, ◌/◌, ◌%◌}
use native.Mathlib.Decide.{dec_lt, ℕ_discrete}
use native.Mathlib.Omega.{arith}
use borrow.Author.Tests.{eq-eqb, ne_eqb}
use Rattle.thermal.specs.Thermal.{steady_state}

-- The two cases of the steady-state temperature: an exact half, and any other number.
pub record Rounded (product nearest : ℕ) : Type 0 where
  pub half : product % 10000 ≡ 5000 → nearest ≡ product / 10000 + product / 10000 % 2
  pub other : product % 10000 ≢ 5000 → nearest ≡ (product + 5000) / 10000

pub steady_rounded : (p r : ℕ) → Rounded (p * r) (steady_state p r)
unfolding steady_state
steady_rounded p r =
    record {
      half = λ h. rw (eq-eqb (p * r % 10000) 5000 h) refl;
      other = λ h. rw (ne_eqb (p * r % 10000) 5000 h) refl;
    }

-- Of two numbers next to each other one is even.
next_parity : (q : ℕ) → (q + 1) % 2 ≡ 1 - q % 2
next_parity q = elim (ℕ_discrete (q % 2) 0) [ yes e ↦ omega arith | no e ↦ omega arith ]

-- The nearest whole number by one division: with one less where the upper neighbour is odd, an exact half goes to the lower one.
pub steady_divided : (p r : ℕ) → (p * r + 5000 - (p * r / 10000 + 1) % 2) / 10000 ≡ steady_state p r
steady_divided p r =
    elim (ℕ_discrete (p * r % 10000) 5000) [
      | yes h ↦ omega (arith, (steady_rounded p r).half h, next_parity (p * r / 10000))
      | no h ↦
          elim (dec_lt (p * r % 10000) 5000) [
            | yes l ↦ omega (arith, (steady_rounded p r).other h)
            | no l ↦ omega (arith, (steady_rounded p r).other h)
          ]
    ]
