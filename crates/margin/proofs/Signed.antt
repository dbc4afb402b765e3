-- A difference of two naturals below 2 ^ 63 as a 64-bit signed number.
-- Assumes nothing.
use mathlib.Core.Path.{◌≡◌, refl, sym, ap, ◌∙◌}
use Prim.Native.Nat.{ℕ, zero, suc, ◌+◌, ◌-◌, ◌^◌, ◌≤◌, ◌<◌}
use native.Mathlib.Decide.{dec_lt}
use native.Mathlib.Omega.{arith}
use lib.IntN.{pos, negsuc, sub_ℕ, ◌-ℤ◌}
use borrow.Author.Tests.{lt-ltb, le-ltb}
use mir.Syntax.{w64}
use mir.Val.{SFits, to_z, of_z}
use mir.Facts.{to_z-of_z, to_z_pos}

-- At the limit or below it: "0 is met".
sub_at_most : (a b : ℕ) → b ≤ a → sub_ℕ a b ≡ pos (a - b)
sub_at_most a b h = rw (le-ltb a b h)

-- Above it: "A negative margin is a broken limit".
sub_above : (a b : ℕ) → a < b → sub_ℕ a b ≡ negsuc (b - suc a)
sub_above a b h = rw (lt-ltb a b h)

-- The difference of two integers that are naturals.
sub_is : (a b : ℕ) → pos a -ℤ pos b ≡ sub_ℕ a b
sub_is a zero = let q : a + 0 ≡ a - 0 = omega arith in ap pos q ∙ sym (sub_at_most a 0 (omega arith))
sub_is a (suc b) = refl

module _ (a b : ℕ) (h : a < 2 ^ 63) (g : b < 2 ^ 63) where
  -- Neither way does the difference leave 64 bits, signed.
  sub_fits : SFits w64 (sub_ℕ a b)
  sub_fits =
      elim (dec_lt a b) [
        | yes l ↦ rw (sub_above a b l) (record { sfits = omega arith })
        | no l ↦ rw (sub_at_most a b (omega arith)) (record { sfits = omega arith })
      ]

  -- The code's difference of the two casts does not overflow.
  pub margin_fits : SFits w64 (to_z w64 a -ℤ to_z w64 b)
  margin_fits = rw (to_z_pos w64 h, to_z_pos w64 g, sub_is a b) sub_fits

  -- The code's difference is the margin.
  pub margin_is : to_z w64 (of_z w64 (to_z w64 a -ℤ to_z w64 b)) ≡ sub_ℕ a b
  margin_is = to_z-of_z margin_fits ∙ rw (to_z_pos w64 h, to_z_pos w64 g) (sub_is a b)
