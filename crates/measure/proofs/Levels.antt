-- Laws of the first level that is too high, by induction over the list.
-- Assumes nothing.
use mathlib.Core.Path.{◌≡◌, refl, sym, ap, ◌∙◌}
use mathlib.Core.List.{List, [], ◌∷◌}
use Prim.Native.Nat.{ℕ, zero, suc, ◌+◌, ◌≤◌, ◌<◌}
use native.Mathlib.Decide.{dec_lt}
use mathlib.Core.Bool.{cond}
use native.Mathlib.Omega.{arith}
use lib.Dec.{leb, ltb}
use lib.ListN.{length, get_or}
use borrow.Author.Tests.{le-leb, lt-leb, lt-ltb, ltb-true}
use Rattle.std.specs.Prelude.{Option, Some, None}
use Rattle.std.specs.List.{position, position_or_len}
use Rattle.std.proofs.lemmas.List.Recursion.{is_position_or_len}
use Rattle.std.proofs.lemmas.Option.{none-some, cond_some}
use Rattle.frame.specs.Demands.{Below}
use Rattle.measure.specs.Measure.{first_above}

above_here : (l : ℕ) (js : List ℕ) (j : ℕ) → l ≤ j → first_above l (j ∷ js) ≡ 0
unfolding first_above
above_here l js j h = rw (le-leb l j h) refl

above_on : (l : ℕ) (js : List ℕ) (j : ℕ) → j < l → first_above l (j ∷ js) ≡ suc (first_above l js)
unfolding first_above
above_on l js j h = rw (lt-leb l j h) refl

-- ---- the library's search

above_position : (l : ℕ) (js : List ℕ) → first_above l js ≡ position_or_len (leb l) js
unfolding first_above
above_position l js = is_position_or_len (first_above l) (leb l) refl (λ j js. let z : suc (first_above l js) ≡ 1 + first_above l js = omega arith in ap (λ (n : ℕ). cond (leb l j) 0 n) z) js

module _ (l : ℕ) (js : List ℕ) {o : Option ℕ} (e : o ≡ position (leb l) js) where
  -- The place that it finds.
  pub found_place : (k : ℕ) → o ≡ Some k → (k ≡ first_above l js) × (k < length js)
  found_place k h =
      let p = cond_some (ltb (position_or_len (leb l) js) (length js)) (position_or_len (leb l) js) k (sym e ∙ h) in
      (sym (above_position l js ∙ p.1), omega (arith, ltb-true _ _ p.0, p.1))

  -- It finds none.
  pub no_place : o ≡ None → length js ≤ first_above l js
  no_place h =
      elim (dec_lt (position_or_len (leb l) js) (length js)) [
        | yes b ↦
            let q : position (leb l) js ≡ Some (position_or_len (leb l) js) = rw (lt-ltb (position_or_len (leb l) js) (length js) b) refl in
            absurd (none-some _ (sym h ∙ e ∙ q))
        | no b ↦ omega (arith, above_position l js, b)
      ]

-- ---- what the first place says of the list

module _ (l : ℕ) where
  -- A level of l or more is there, where there is one.
  pub above_at : (js : List ℕ) → first_above l js < length js → l ≤ get_or js (first_above l js) 0
  above_at [] h = absurd (omega (arith, h))
  above_at (j ∷ js) h =
      elim (dec_lt j l) [
        | yes b ↦ rw (above_on l js j b) (above_at js (omega (arith, h, above_on l js j b)))
        | no b ↦ rw (above_here l js j (omega arith)) (omega arith)
      ]

  -- None is before it.
  pub below_before : (js : List ℕ) (i : ℕ) → i < first_above l js → get_or js i 0 < l
  unfolding first_above
  below_before [] i h = absurd (omega (arith, h))
  below_before (j ∷ js) zero h =
      elim (dec_lt j l) [
        | yes b ↦ b
        | no b ↦ absurd (omega (arith, h, above_here l js j (omega arith)))
      ]
  below_before (j ∷ js) (suc i) h =
      elim (dec_lt j l) [
        | yes b ↦ below_before js i (omega (arith, h, above_on l js j b))
        | no b ↦ absurd (omega (arith, h, above_here l js j (omega arith)))
      ]

  -- There is none exactly where every level is below l.
  pub none_below : (js : List ℕ) → length js ≤ first_above l js → Below l js
  none_below [] h = tt
  none_below (j ∷ js) h =
      elim (dec_lt j l) [
        | yes b ↦ (b, none_below js (omega (arith, h, above_on l js j b)))
        | no b ↦ absurd (omega (arith, h, above_here l js j (omega arith)))
      ]

  pub below_none : (js : List ℕ) → Below l js → length js ≤ first_above l js
  below_none [] b = omega arith
  below_none (j ∷ js) b = omega (arith, above_on l js j b.0, below_none js b.1)

  -- Each level of a list that has none is below l.
  pub below_each : (js : List ℕ) → Below l js → (i : ℕ) → i < length js → get_or js i 0 < l
  below_each js b i h = below_before js i (omega (arith, below_none js b))
