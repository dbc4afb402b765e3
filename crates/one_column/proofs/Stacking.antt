-- The words of one column written one after the other: one word more, all.
-- Assumes nothing.
use mathlib.Core.Path.{◌≡◌, ◌∙◌}
use mathlib.Core.List.{List}
use Prim.Native.Nat.{ℕ, ◌+◌, ◌*◌, ◌-◌, ◌≤◌, ◌<◌}
use native.Mathlib.Nat.{add-mul, mul-le-mul_right, le_antisymm}
use native.Mathlib.Decide.{dec_lt}
use native.Mathlib.Omega.{arith}
use lib.ListN.{length, get_or, set, length-set}
use lib.Seq.{get_or-set_same, get_or-set_other}
use Rattle.one_column.specs.Column.{Column}

-- A row further up stands at another place.
step_on : (a b width : ℕ) → 1 ≤ width → a < b → a * width < b * width
step_on a b width h l = let g : a + 1 ≤ b = omega arith in omega (arith, mul-le-mul_right width g, add-mul a 1 width)

module _ {old new : List ℕ} {at a width : ℕ} {f : ℕ → ℕ} (w : Column old new at a width f) where
  column_more : 1 ≤ width → at + a * width < length new → (v : ℕ) → v ≡ f a → Column old (set new (at + a * width) v) at (a + 1) width f
  column_more wide room v e =
      record {
        long = length-set new (at + a * width) v ∙ w.long;
        inside =
            λ b l. elim (dec_lt b a) [
              | yes g ↦ get_or-set_other new (at + a * width) (at + b * width) v 0 (λ i. absurd (omega (arith, step_on b a width wide g))) ∙ w.inside b g
              | no g ↦ let z : b ≡ a = omega arith in rw z (get_or-set_same new (at + a * width) v 0 room ∙ e)
            ];
        outside = λ q l. get_or-set_other new (at + a * width) q v 0 (λ i. l a (omega arith) i) ∙ w.outside q (λ b g. l b (omega arith));
      }

  -- The same where the row's place was counted on.
  pub column_next : {k : ℕ} → k ≡ a * width → 1 ≤ width → at + k < length new → (v : ℕ) → v ≡ f a → Column old (set new (at + k) v) at (a + 1) width f
  column_next e wide room v h = rw e (column_more wide (omega (arith, e, room)) v h)

  -- A word behind the column is as it was.
  pub column_behind : (rows q : ℕ) → a ≤ rows → at + (rows - 1) * width < q → get_or new q 0 ≡ get_or old q 0
  column_behind rows q h l = w.outside q (λ b g e. let m : b ≤ rows - 1 = omega arith in absurd (omega (arith, mul-le-mul_right width m)))

  pub column_all : {n : ℕ} → a ≤ n → n ≤ a → Column old new at n width f
  column_all h l = rw (le_antisymm h l) at w

-- A row's place, one row further on.
pub place_next : {k : ℕ} (a width : ℕ) → k ≡ a * width → k + width ≡ (a + 1) * width
place_next a width e = omega (arith, e, add-mul a 1 width)
