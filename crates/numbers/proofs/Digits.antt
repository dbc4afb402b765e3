-- Laws of the form of numbers: the digits that a text starts with, the number that they are, and the field that they fill.
-- Assumes nothing.
use mathlib.Core.Path.{◌≡◌, refl, ap, sym, ◌∙◌}
use mathlib.Core.Logic.{◌⊎◌, inl, inr, ⊎_elim}
use mathlib.Core.Bool.{true, false}
use mathlib.Core.List.{List, [], ◌∷◌}
use Prim.Native.Nat.{ℕ, zero, suc, ◌+◌, ◌-◌, ◌*◌, ◌^◌, ◌≤◌, ◌<◌}
use native.Mathlib.Nat.{pow-suc, pow-le-pow_right}
use native.Mathlib.Decide.{dec_le, ℕ_discrete}
use native.Mathlib.Omega.{arith}
use lib.Dec.{eqb, ltb}
use lib.ListN.{length, get_or, take, drop, length-take}
use borrow.Author.Tests.{lt-ltb, le-ltb, ltb-false, lt-leb, le-leb, eq-eqb, ne_eqb}
use Rattle.std.specs.Prelude.{Some, None}
use Rattle.std.specs.Char.{is_ascii_digit}
use Rattle.std.proofs.lemmas.List.Folds.{length-prefix_len}
use Rattle.std.proofs.lemmas.List.Sums.{take_while-cons, prefix_len-le-length}
use Rattle.std.proofs.lemmas.Option.{cond_some}
use Rattle.text.specs.Text.{before, until, beyond, all}
use Rattle.numbers.specs.Number.{leading_zero, is_number, value_from, leading_digits, leading_number, next_number}
use Rattle.text.proofs.Tests.{clash, cond_else, cond_false, not_so}
use Rattle.text.proofs.Text.{none_test, until_hit, until_pass, until_none, drop_none, drop_here, before_byte, length_until, all_on, all_first, all_none}

-- ---- a number, by places

module _ (t : List ℕ) where
  pub number_empty : length t ≡ 0 → is_number t ≡ false
  unfolding is_number
  number_empty e = simp (eq-eqb (length t) 0 e)

  pub number_zero : 1 < length t → get_or t 0 0 ≡ 48 → is_number t ≡ false
  unfolding is_number leading_zero
  number_zero h e =
      simp (ne_eqb (length t) 0 (λ z. omega arith), lt-ltb 1 (length t) h, eq-eqb (get_or t 0 0) 48 e) (cond_false (ltb 10 (length t)))

  no_zero : (length t ≤ 1) ⊎ (get_or t 0 0 ≡ 48 → ⊥) → leading_zero t ≡ false
  unfolding leading_zero
  no_zero c =
      ⊎_elim
      (λ (h : length t ≤ 1). simp (le-ltb 1 (length t) h))
      (λ (n : get_or t 0 0 ≡ 48 → ⊥). rw (ne_eqb (get_or t 0 0) 48 n) (cond_false (ltb 1 (length t))))
      c

  pub number_digits : 0 < length t → length t ≤ 10 → (length t ≤ 1) ⊎ (get_or t 0 0 ≡ 48 → ⊥) → is_number t ≡ all 48 57 t
  unfolding is_number
  number_digits h k c = simp (ne_eqb (length t) 0 (λ e. omega arith), le-ltb 10 (length t) k, no_zero c)

-- ---- the digits that a text starts with

-- A byte that is no digit.
abbrev pub NoDigit : ℕ → Type 0
NoDigit b = (b < 48) ⊎ (57 < b)

module _ (b : ℕ) (t : List ℕ) where
  digits_on : 48 ≤ b → b ≤ 57 → leading_digits (b ∷ t) ≡ b ∷ leading_digits t
  digits_on l h = take_while-cons is_ascii_digit b t ∙ simp (le-leb 48 b l, le-leb b 57 h)

  digits_off : NoDigit b → leading_digits (b ∷ t) ≡ []
  digits_off n =
      take_while-cons is_ascii_digit b t
      ∙ ⊎_elim
      (λ (l : b < 48). simp (lt-leb 48 b l))
      (λ (h : 57 < b). simp (le-leb 48 b (omega arith), lt-leb b 57 h))
      n

-- A byte is a digit or not.
digit_cases : (b : ℕ) → ((48 ≤ b) × (b ≤ 57)) ⊎ NoDigit b
digit_cases b =
    elim (dec_le 48 b) [
      | yes l ↦ elim (dec_le b 57) [ yes h ↦ inl (l, h) | no n ↦ inr (inr (omega arith)) ]
      | no n ↦ inr (inl (omega arith))
    ]

digits_all : (t : List ℕ) → all 48 57 (leading_digits t) ≡ true
digits_all [] = all_none 48 57
digits_all (b ∷ t) =
    ⊎_elim
    (λ (d : (48 ≤ b) × (b ≤ 57)). ap (all 48 57) (digits_on b t d.0 d.1) ∙ all_on 48 57 b _ d.0 d.1 ∙ digits_all t)
    (λ (n : NoDigit b). ap (all 48 57) (digits_off b t n) ∙ all_none 48 57)
    (digit_cases b)

digits_first : (t : List ℕ) → 0 < length (leading_digits t) → get_or (leading_digits t) 0 0 ≡ get_or t 0 0
digits_first [] l = absurd (omega arith)
digits_first (b ∷ t) l =
    ⊎_elim
    (λ (d : (48 ≤ b) × (b ≤ 57)). ap (λ (u : List ℕ). get_or u 0 0) (digits_on b t d.0 d.1))
    (λ (n : NoDigit b). absurd (omega (arith, ap length (digits_off b t n))))
    (digit_cases b)

-- No digit is at place i of the text, or it ends there.
pub digits_stop : (t : List ℕ) (i : ℕ) → i < length t → NoDigit (get_or t i 0) → leading_digits (drop i t) ≡ []
digits_stop t i h n = ap leading_digits (drop_here t i h) ∙ digits_off (get_or t i 0) (drop (i + 1) t) n

pub digits_end : (t : List ℕ) (i : ℕ) → length t ≤ i → leading_digits (drop i t) ≡ []
digits_end t i h = ap leading_digits (drop_none t i h)

-- Of the digits that the text t starts with i are read, of value v.
pub record Digits (t : List ℕ) (i v : ℕ) : Type 0 where
  pub within : i ≤ length t
  pub value : v < 10 ^ i
  pub sum : value_from 0 (leading_digits t) ≡ value_from v (leading_digits (drop i t))
  pub size : length (leading_digits t) ≡ i + length (leading_digits (drop i t))

-- One digit more.
pow_more : (v d k : ℕ) → v < 10 ^ k → d < 10 → v * 10 + d < 10 ^ suc k
pow_more v d k h g = rw pow-suc (omega arith)

pub digits_none : (t : List ℕ) → Digits t 0 0
digits_none t = record { within = omega arith; value = omega arith; sum = refl; size = omega arith }

number_none : (t : List ℕ) → is_number (leading_digits t) ≡ false → None ≡ leading_number t
unfolding leading_number
number_none t e = rw e refl

module _ {t : List ℕ} {i v : ℕ} (z : Digits t i v) where
  pub digits_value : (n : ℕ) → i ≤ n → v < 10 ^ n
  digits_value n h = omega (arith, z.value, pow-le-pow_right {n = 10} (omega arith) h)

  pub digits_zero : 1 < i → get_or t 0 0 ≡ 48 → None ≡ leading_number t
  digits_zero l q =
      number_none t (number_zero (leading_digits t) (omega (arith, z.size)) (digits_first t (omega (arith, z.size)) ∙ q))

  pub digits_more : i < length t → 48 ≤ get_or t i 0 → get_or t i 0 ≤ 57 → Digits t (i + 1) (v * 10 + (get_or t i 0 - 48))
  unfolding value_from
  digits_more h a c =
      let e : i + 1 ≡ suc i = omega arith in
      let here : leading_digits (drop i t) ≡ get_or t i 0 ∷ leading_digits (drop (i + 1) t) =
      ap leading_digits (drop_here t i h) ∙ digits_on (get_or t i 0) (drop (i + 1) t) a c in
      record {
        within = omega arith;
        value = rw e (pow_more v (get_or t i 0 - 48) i z.value (omega arith));
        sum = z.sum ∙ ap (value_from v) here;
        size = omega (arith, z.size, ap length here);
      }

  -- The digits end at place i.
  module _ (e : leading_digits (drop i t) ≡ []) where
    digits_size : length (leading_digits t) ≡ i
    digits_size = omega (arith, z.size, ap length e)

    digits_sum : value_from 0 (leading_digits t) ≡ v
    unfolding value_from
    digits_sum = z.sum ∙ ap (value_from v) e

    pub digits_empty : i ≡ 0 → None ≡ leading_number t
    digits_empty q = number_none t (number_empty (leading_digits t) (omega (arith, digits_size)))

    pub digits_found : 0 < i → i ≤ 10 → (i ≤ 1) ⊎ (get_or t 0 0 ≡ 48 → ⊥) → Some (v, i) ≡ leading_number t
    unfolding leading_number
    digits_found l k c =
        let d : (length (leading_digits t) ≤ 1) ⊎ (get_or (leading_digits t) 0 0 ≡ 48 → ⊥) =
        ⊎_elim
        (λ (h : i ≤ 1). inl (omega (arith, digits_size)))
        (λ (m : get_or t 0 0 ≡ 48 → ⊥). inr (λ q. m (sym (digits_first t (omega (arith, digits_size))) ∙ q)))
        c in
        let f : is_number (leading_digits t) ≡ true =
        number_digits (leading_digits t) (omega (arith, digits_size)) (omega (arith, digits_size)) d ∙ digits_all t in
        rw (f, digits_sum, digits_size) refl

-- ---- the field that the digits fill

pub number_all : (t : List ℕ) → is_number t ≡ true → all 48 57 t ≡ true
unfolding is_number
number_all t e = (cond_else (leading_zero t) _ (cond_else (ltb 10 (length t)) _ (cond_else (eqb (length t) 0) _ e).1).1).1

pub number_size : (t : List ℕ) → is_number t ≡ true → length t ≤ 10
unfolding is_number
number_size t e = ltb-false _ _ (cond_else (ltb 10 (length t)) _ (cond_else (eqb (length t) 0) _ e).1).0

-- A field ends at a byte below the digits, or with the text.
module _ (stop : ℕ) (low : stop < 48) where
  digits_field : (n : ℕ) (t : List ℕ) → all 48 57 (until stop t) ≡ true → length (until stop t) ≤ n → leading_digits (take n t) ≡ until stop t
  digits_field zero [] a l = sym (until_none stop)
  digits_field (suc n) [] a l = sym (until_none stop)
  digits_field zero (b ∷ t) a l =
      elim (ℕ_discrete b stop) [
        | yes e ↦ sym (until_hit stop b t e)
        | no m ↦ absurd (omega (arith, ap length (until_pass stop b t m)))
      ]
  digits_field (suc n) (b ∷ t) a l =
      elim (ℕ_discrete b stop) [
        | yes e ↦ digits_off b (take n t) (inl (omega arith)) ∙ sym (until_hit stop b t e)
        | no m ↦
            let u = until_pass stop b t m in
            let d = all_first 48 57 b (until stop t) (ap (all 48 57) (sym u) ∙ a) in
            digits_on b (take n t) d.0 d.1 ∙ ap (λ (w : List ℕ). b ∷ w) (digits_field n t d.2 (omega (arith, ap length u))) ∙ sym u
      ]

  field_digits : (n : ℕ) (t : List ℕ) →
      (let k : ℕ = length (leading_digits (take n t)) in (length t ≤ k) ⊎ (get_or t k 0 ≡ stop)) → until stop t ≡ leading_digits (take n t)
  field_digits zero [] c = until_none stop
  field_digits (suc n) [] c = until_none stop
  field_digits zero (b ∷ t) c = ⊎_elim (λ (l : suc (length t) ≤ 0). absurd (omega arith)) (λ (e : b ≡ stop). until_hit stop b t e) c
  field_digits (suc n) (b ∷ t) c =
      ⊎_elim
      (λ (d : (48 ≤ b) × (b ≤ 57)).
      let q = digits_on b (take n t) d.0 d.1 in
      let w : (suc (length t) ≤ suc (length (leading_digits (take n t)))) ⊎ (get_or t (length (leading_digits (take n t))) 0 ≡ stop) = rw q at c in
      let m : (length t ≤ length (leading_digits (take n t))) ⊎ (get_or t (length (leading_digits (take n t))) 0 ≡ stop) =
      ⊎_elim (λ (l : suc (length t) ≤ suc (length (leading_digits (take n t)))). inl (omega arith)) (λ (e : get_or t (length (leading_digits (take n t))) 0 ≡ stop). inr e) w in
      until_pass stop b t (λ e. omega arith) ∙ ap (λ (u : List ℕ). b ∷ u) (field_digits n t m) ∙ sym q)
      (λ (m : NoDigit b).
      let q = digits_off b (take n t) m in
      let d : (suc (length t) ≤ 0) ⊎ (b ≡ stop) = rw q at c in
      ⊎_elim (λ (l : suc (length t) ≤ 0). absurd (omega arith)) (λ (e : b ≡ stop). until_hit stop b t e) d ∙ sym q)
      (digit_cases b)

  module _ (n : ℕ) (t : List ℕ) where
    -- Where the first n bytes start with no number, no field of n digits is a number.
    pub field_other : None ≡ leading_number (take n t) → is_number (until stop t) ≡ true → length (until stop t) ≤ n → ⊥
    unfolding leading_number
    field_other e a l =
        let q = digits_field n t (number_all _ a) l in
        let w = clash (sym a ∙ sym (ap is_number q) ∙ none_test _ _ e) in
        omega arith

    module _ (v k : ℕ) (e : Some (v, k) ≡ leading_number (take n t)) where
      found : (is_number (leading_digits (take n t)) ≡ true) × (value_from 0 (leading_digits (take n t)) ≡ v) × (length (leading_digits (take n t)) ≡ k)
      unfolding leading_number
      found = let h = cond_some _ _ _ (sym e) in (h.0, ap (λ (p : ℕ × ℕ). p.0) h.1, ap (λ (p : ℕ × ℕ). p.1) h.1)

      pub found_few : k ≤ n
      found_few = omega (arith, found.2, length-prefix_len is_ascii_digit (take n t), prefix_len-le-length is_ascii_digit (take n t), length-take n t)

      -- The byte behind the digits does not end the field.
      pub field_open : k < length t → (get_or t k 0 ≡ stop → ⊥) → is_number (until stop t) ≡ true → length (until stop t) ≤ n → ⊥
      field_open h m a l =
          let q = digits_field n t (number_all _ a) l in
          let s : k ≡ before stop t = omega (arith, found.2, ap length q, length_until stop t) in
          m (ap (λ (i : ℕ). get_or t i 0) s ∙ before_byte stop t (omega arith))

      -- The digits are the field.
      pub field_found : (length t ≤ k) ⊎ (get_or t k 0 ≡ stop) → (is_number (until stop t) ≡ true) × (value_from 0 (until stop t) ≡ v) × (length (until stop t) ≡ k)
      field_found c = let q = field_digits n t (rw (← found.2) at c) in rw q found

-- ---- the next field

pub next_other : (t : List ℕ) → (is_number (until 9 t) ≡ true → ⊥) → None ≡ next_number t
unfolding next_number
next_other t n = rw (not_so _ n) refl

pub next_found : (t : List ℕ) (v k : ℕ) → (is_number (until 9 t) ≡ true) × (value_from 0 (until 9 t) ≡ v) × (length (until 9 t) ≡ k) →
    (rest : List ℕ) → rest ≡ drop (k + 1) t → Some (v, rest) ≡ next_number t
unfolding next_number beyond
next_found t v k h rest r =
    let p : k + 1 ≡ suc (before 9 t) = omega (arith, h.2, length_until 9 t) in
    rw (h.0, h.1, r, p) refl
