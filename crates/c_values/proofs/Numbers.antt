-- The signed numbers that a call hands back.
-- Assumes nothing.
use mathlib.Core.Path.{◌≡◌, refl, ◌∙◌}
use Prim.Native.Nat.{ℕ, zero, suc}
use native.Mathlib.Omega.{arith}
use lib.IntN.{ℤ}
use borrow.Author.Tests.{ne_eqb}
use mir.Syntax.{w64}
use mir.Val.{SFits, to_z, of_z}
use mir.Facts.{to_z-of_z}
use Rattle.c_values.specs.Values.{minus, count_or_refusal}

-- Where nothing is counted, 0 or minus the refusal.
pub number_only : (refusal : ℕ) → count_or_refusal refusal 0 ≡ minus refusal
number_only zero = refl
number_only (suc k) = rw (ne_eqb (suc k) 0 (λ e. omega (arith, e))) refl

-- A signed number that was handed on says the same.
pub handed_on : {z q : ℤ} → SFits w64 z → z ≡ q → to_z w64 (of_z w64 z) ≡ q
handed_on ok e = to_z-of_z ok ∙ e
