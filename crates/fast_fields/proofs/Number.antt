-- Laws of numbers that are taken in one pass: what each byte adds, what is taken and what not.
-- Assumes nothing.
use mathlib.Core.Path.{◌≡◌, refl, ap, sym, ◌∙◌}
use mathlib.Core.Logic.{inr}
use mathlib.Core.Bool.{Bool, true, false, cond}
use mathlib.Core.List.{List, [], ◌∷◌}
use Prim.Native.Nat.{ℕ, ◌-◌, ◌*◌, ◌+◌, ◌^◌, ◌≤◌, ◌<◌}
use native.Mathlib.Nat.{pow-suc, pow-le-pow_right, mul-le-mul_right}
use native.Mathlib.Decide.{dec_le}
use native.Mathlib.Omega.{arith}
use lib.Dec.{leb}
use lib.ListN.{length, get_or, take}
use borrow.Author.Tests.{le-leb, leb-true}
use Rattle.text.specs.Text.{before, until, ahead}
use Rattle.text.proofs.Text.{ahead_lt, lt_ahead, length_until, all_first}
use Rattle.text.proofs.Tests.{clash, cond_true, not_both}
use Rattle.numbers.specs.Number.{is_number, value_from, leading_number}
use Rattle.numbers.proofs.Digits.{number_all, number_zero, field_other, field_open, field_found, found_few}
use Rattle.fields.specs.declared.Range.{Range}
use Rattle.fast_fields.specs.Take.{is_short, taken}
use Rattle.std.specs.Prelude.{Option, Some, None}
use Rattle.fields.specs.Fields.{in_range}

-- ---- what a number says of its bytes

-- Digits behind digits of value v only add to it.
value_least : (v : ℕ) (t : List ℕ) → v * 10 ^ length t ≤ value_from v t
unfolding value_from
value_least v [] = omega arith
value_least v (c ∷ t) =
    let w = v * 10 + (c - 48) in
    rw pow-suc (omega (arith, value_least w t, mul-le-mul_right {m = v * 10} {n = w} (10 ^ length t) (omega arith)))

-- A number below 10 ^ m has at most m digits, since it has no leading zero.
pub number_few : (m : ℕ) → 0 < m → (t : List ℕ) → is_number t ≡ true → value_from 0 t < 10 ^ m → length t ≤ m
unfolding value_from
number_few m p [] e l = omega arith
number_few m p (c ∷ []) e l = omega arith
number_few m p (c ∷ d ∷ t) e l =
    let u = d ∷ t in
    let z : c ≡ 48 → ⊥ = λ q. let w = clash (sym e ∙ number_zero (c ∷ u) (omega arith) q) in omega arith in
    let a = (all_first 48 57 c u (number_all (c ∷ u) e)).0 in
    elim (dec_le m (length u)) [
      | yes h ↦
          let w = mul-le-mul_right {m = 1} {n = 0 * 10 + (c - 48)} (10 ^ length u) (omega arith) in
          absurd (omega (arith, w, value_least (0 * 10 + (c - 48)) u, pow-le-pow_right {n = 10} (omega arith) h))
      | no h ↦ omega arith
    ]

-- ---- a number that is taken

-- A number in the range, of at most 8 digits.
pub record Short (range : Range) (t : List ℕ) : Type 0 where
  pub form : is_number t ≡ true
  pub few : length t ≤ 8
  pub within : in_range range (value_from 0 t) ≡ true

-- The number v of k digits is taken of the text t, and a byte `stop` stands behind it.
pub record NumberAt (stop : ℕ) (range : Range) (t : List ℕ) (v k : ℕ) : Type 0 where
  pub stops : ahead stop t ≡ true
  pub short : Short range (until stop t)
  pub value : v ≡ value_from 0 (until stop t)
  pub size : k ≡ before stop t
  pub few : k ≤ 8
  pub within : k < length t

module _ (stop : ℕ) (range : Range) (t : List ℕ) where
  short_is : (u : List ℕ) → is_short range u ≡ true → Short range u
  unfolding is_short
  short_is u e =
      let a = cond_true (is_number u) _ e in
      let b = cond_true (leb (length u) 8) _ a.1 in
      record { form = a.0; few = leb-true _ _ b.0; within = b.1 }

  pub taken_so : ahead stop t ≡ true → Short range (until stop t) → taken stop range t ≡ Some (value_from 0 (until stop t), length (until stop t))
  unfolding taken is_short
  taken_so a z = rw (a, z.form, le-leb _ _ z.few, z.within) refl

  pub taken_none : (ahead stop t ≡ true → Short range (until stop t) → ⊥) → taken stop range t ≡ None
  unfolding taken
  taken_none n = not_both (ahead stop t) (is_short range (until stop t)) _ _ (λ a b. n a (short_is _ b))

  pub taken_number : (v k : ℕ) → taken stop range t ≡ Some (v, k) → NumberAt stop range t v k
  unfolding taken
  taken_number v k = go (ahead stop t) (is_short range (until stop t)) refl refl
    where
      go : (a b : Bool) → ahead stop t ≡ a → is_short range (until stop t) ≡ b →
          ◌≡◌ {A = Option (ℕ × ℕ)} (cond a (cond b (Some (value_from 0 (until stop t), length (until stop t))) None) None) (Some (v, k)) → NumberAt stop range t v k
      go true true a b q =
          let z = short_is _ b in
          let l = length_until stop t in
          let p : ◌≡◌ {A = ℕ × ℕ} (value_from 0 (until stop t), length (until stop t)) (v, k) = cc in
          let y = ap (λ (x : ℕ × ℕ). x.1) p in
          record {
            stops = a;
            short = z;
            value = sym (ap (λ (x : ℕ × ℕ). x.0) p);
            size = omega arith;
            few = omega (arith, z.few);
            within = omega (arith, ahead_lt stop t a);
          }
      go true false a b q = let z : ◌≡◌ {A = ℕ} 0 1 = cc in absurd (omega arith)
      go false b a c q = let z : ◌≡◌ {A = ℕ} 0 1 = cc in absurd (omega arith)

-- ---- taking a number, by its digits

module _ (stop : ℕ) (low : stop < 48) (range : Range) (t : List ℕ) where
  -- The first 8 bytes start with no number.
  pub take_none : None ≡ leading_number (take 8 t) → taken stop range t ≡ None
  take_none e = taken_none stop range t (λ a z. field_other stop low 8 t e z.form z.few)

  module _ (v k : ℕ) (e : Some (v, k) ≡ leading_number (take 8 t)) (h : k < length t) where
    -- The byte behind the digits is not the one that has to end them.
    pub take_open : (get_or t k 0 ≡ stop → ⊥) → taken stop range t ≡ None
    take_open n = taken_none stop range t (λ a z. field_open stop low 8 t v k e h n z.form z.few)

    module _ (q : get_or t k 0 ≡ stop) where
      pub take_out : in_range range v ≡ false → taken stop range t ≡ None
      take_out m =
          let f = field_found stop low 8 t v k e (inr q) in
          taken_none stop range t (λ a z. let c = clash (sym z.within ∙ ap (in_range range) f.1 ∙ m) in omega arith)

      pub take_digits : in_range range v ≡ true → taken stop range t ≡ Some (v, k)
      take_digits m =
          let f = field_found stop low 8 t v k e (inr q) in
          let g = lt_ahead stop t (omega (arith, length_until stop t, f.2)) in
          taken_so stop range t g
          (record { form = f.0; few = omega (arith, f.2, found_few stop low 8 t v k e); within = ap (in_range range) f.1 ∙ m })
          ∙ rw (f.1, f.2) refl
