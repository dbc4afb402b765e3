-- Laws of `decimal`: its digits one by one, how many there are, and what the sheet's reader takes them for.
-- Assumes nothing.
use mathlib.Core.Path.{◌≡◌, refl, ap, sym, ◌∙◌}
use mathlib.Core.Logic.{◌⊎◌, inl, inr}
use mathlib.Core.Bool.{true}
use mathlib.Core.List.{List, [], ◌∷◌, ◌++◌, append_assoc}
use Prim.Native.Nat.{ℕ, zero, suc, ◌+◌, ◌-◌, ◌*◌, ◌/◌, ◌%◌, ◌^◌, ◌≤◌, ◌<◌}
use native.Mathlib.Nat.{pow-suc}
use native.Mathlib.Decide.{dec_lt}
use native.Mathlib.Omega.{arith}
use lib.ListN.{length, get_or, drop, length-append, get_or-append}
use lib.Seq.{take_at, drop_at, drop-drop}
use borrow.Author.Tests.{lt-ltb, le-ltb}
use Rattle.std.specs.Prelude.{Some}
use Rattle.text.specs.Text.{before, until, beyond, all}
use Rattle.numbers.specs.Number.{is_number, value_from, next_number}
use Rattle.text.proofs.Text.{before_pass, all_none, all_on}
use Rattle.numbers.proofs.Digits.{number_digits}
use Rattle.writer.specs.Decimal.{digits_in, decimal}

digits_one : (k n : ℕ) → n < 10 → digits_in (suc k) n ≡ (48 + n) ∷ []
unfolding digits_in
digits_one k n h = rw (lt-ltb n 10 h)

digits_more : (k n : ℕ) → 10 ≤ n → digits_in (suc k) n ≡ digits_in k (n / 10) ++ ((48 + n % 10) ∷ [])
unfolding digits_in
digits_more k n h = rw (le-ltb n 10 h)

tenth : (k n : ℕ) → n < 10 ^ suc (suc k) → n / 10 < 10 ^ suc k
tenth k n h = let g : n < 10 ^ suc k * 10 = rw (pow-suc 10 (suc k)) at h in omega arith

-- What holds of one digit, and of a number and its digits where it holds of its tenth, holds of every number and its digits.
module _ (P : ℕ → List ℕ → Type 0)
    (one : (n : ℕ) → n < 10 → P n ((48 + n) ∷ []))
    (more : (n : ℕ) (xs : List ℕ) → 10 ≤ n → P (n / 10) xs → P n (xs ++ ((48 + n % 10) ∷ []))) where
  digits_all : (k n : ℕ) → n < 10 ^ suc k → P n (digits_in (suc k) n)
  digits_all zero n h = rw (digits_one 0 n (omega arith)) (one n (omega arith))
  digits_all (suc k) n h = elim (dec_lt n 10) [
    | yes l ↦ rw (digits_one (suc k) n l) (one n l)
    | no l ↦ rw (digits_more (suc k) n (omega arith)) (more n _ (omega arith) (digits_all k (n / 10) (tenth k n h)))
  ]

  decimal_all : (n : ℕ) → n < 2 ^ 64 → P n (decimal n)
  unfolding decimal
  decimal_all n h = digits_all 19 n (omega arith)

-- ---- the digits one by one

module _ (n : ℕ) (h : n < 10) where
  pub decimal_one : decimal n ≡ (48 + n) ∷ []
  unfolding decimal
  decimal_one = digits_one 19 n h

-- Any number of steps that is enough finds the same digits.
digits_same : (j n : ℕ) → n < 10 ^ suc j → (k : ℕ) → n < 10 ^ suc k → digits_in (suc k) n ≡ digits_in (suc j) n
digits_same =
    digits_all (λ n xs. (k : ℕ) → n < 10 ^ suc k → digits_in (suc k) n ≡ xs)
    (λ n h k g. digits_one k n h)
    more
  where
    more : (n : ℕ) (xs : List ℕ) → 10 ≤ n → ((k : ℕ) → n / 10 < 10 ^ suc k → digits_in (suc k) (n / 10) ≡ xs) →
        (k : ℕ) → n < 10 ^ suc k → digits_in (suc k) n ≡ xs ++ ((48 + n % 10) ∷ [])
    more n xs h same zero g = absurd (omega arith)
    more n xs h same (suc k) g = rw (digits_more (suc k) n h, same k (tenth k n g))

module _ (n : ℕ) (h : 10 ≤ n) (b : n < 2 ^ 64) where
  pub decimal_more : decimal n ≡ decimal (n / 10) ++ ((48 + n % 10) ∷ [])
  unfolding decimal
  decimal_more = digits_more 19 n h ∙ rw (digits_same 19 (n / 10) (omega arith) 18 (omega arith))

  pub decimal_longer : length (decimal n) ≡ length (decimal (n / 10)) + 1
  decimal_longer = rw (decimal_more, length-append)

-- ---- all digits at once

all_last : (lo hi b : ℕ) (t : List ℕ) → lo ≤ b → b ≤ hi → all lo hi (t ++ (b ∷ [])) ≡ all lo hi t
unfolding all
all_last lo hi b [] h k = all_on lo hi b [] h k
all_last lo hi b (c ∷ t) h k = rw (all_last lo hi b t h k)

value_last : (v : ℕ) (t : List ℕ) (d : ℕ) → value_from v (t ++ (d ∷ [])) ≡ value_from v t * 10 + (d - 48)
unfolding value_from
value_last v [] d = refl
value_last v (b ∷ t) d = value_last (v * 10 + (b - 48)) t d

-- What is known of the digits xs of n. A text that goes on behind them has its first byte 9 there.
record DigitsOf (n : ℕ) (xs : List ℕ) : Type 0 where
  pub some : 0 < length xs
  pub most : (k : ℕ) → n < 10 ^ suc k → length xs ≤ suc k
  pub digits : all 48 57 xs ≡ true
  pub first : 0 < n → get_or xs 0 0 ≡ 48 → ⊥
  pub value : value_from 0 xs ≡ n
  pub plain : (t : List ℕ) → before 9 (xs ++ t) ≡ length xs + before 9 t

digits_of_one : (n : ℕ) → n < 10 → DigitsOf n ((48 + n) ∷ [])
unfolding value_from
digits_of_one n h =
    record {
      some = omega arith;
      most = λ k g. omega arith;
      digits = all_on 48 57 (48 + n) [] (omega arith) (omega arith) ∙ all_none 48 57;
      first = λ l e. omega arith;
      value = omega arith;
      plain = λ t. before_pass 9 (48 + n) t (λ e. omega arith) ∙ omega arith;
    }

digits_of_more : (n : ℕ) (xs : List ℕ) → 10 ≤ n → DigitsOf (n / 10) xs → DigitsOf n (xs ++ ((48 + n % 10) ∷ []))
digits_of_more n xs h z =
    let d = 48 + n % 10 in
    record {
      some = rw length-append (omega arith);
      most = longer;
      digits = all_last 48 57 d xs (omega arith) (omega arith) ∙ z.digits;
      first = λ l e. z.first (omega arith) (sym (get_or-append xs (d ∷ []) 0 0 z.some) ∙ e);
      value = rw (value_last 0 xs d, z.value) (omega arith);
      plain = λ t. rw (append_assoc xs (d ∷ []) t, z.plain (d ∷ t), before_pass 9 d t (λ e. omega arith), length-append) (omega arith);
    }
  where
    longer : (k : ℕ) → n < 10 ^ suc k → length (xs ++ ((48 + n % 10) ∷ [])) ≤ suc k
    longer zero g = absurd (omega arith)
    longer (suc k) g = rw length-append (omega (arith, z.most k (tenth k n g)))

decimal_digits : (n : ℕ) → n < 2 ^ 64 → DigitsOf n (decimal n)
decimal_digits = decimal_all DigitsOf digits_of_one digits_of_more

-- ---- what the sheet's reader takes them for

module _ (n : ℕ) (h : n < 10 ^ 10) where
  its : DigitsOf n (decimal n)
  its = decimal_digits n (omega arith)

  pub decimal_most : length (decimal n) ≤ 10
  decimal_most = its.most 9 h

  lead : (length (decimal n) ≤ 1) ⊎ (get_or (decimal n) 0 0 ≡ 48 → ⊥)
  lead = elim (dec_lt n 10) [
    | yes l ↦ inl (its.most 0 (omega arith))
    | no l ↦ inr (its.first (omega arith))
  ]

  -- "A number has 1 to 10 digits and no leading zero, except 0 itself": the digits are of this form, and their value is n.
  pub value_back : (is_number (decimal n) ≡ true) × (value_from 0 (decimal n) ≡ n)
  value_back = (number_digits (decimal n) its.some decimal_most lead ∙ its.digits, its.value)

  -- Where the line ends behind them or a byte 9 stands there, the reader's next field is the number n.
  pub read_back : (t : List ℕ) → before 9 t ≡ 0 → next_number (decimal n ++ t) ≡ Some (n, drop 1 t)
  unfolding next_number until beyond
  read_back t e =
      let xs = decimal n in
      let b : before 9 (xs ++ t) ≡ length xs = omega (arith, its.plain t) in
      let z : suc (length xs) ≡ length xs + 1 = omega arith in
      let d : drop (suc (length xs)) (xs ++ t) ≡ drop 1 t = rw z (sym (drop-drop 1 (length xs) (xs ++ t)) ∙ ap (drop 1) (drop_at xs t (length xs) refl)) in
      rw (b, take_at xs t (length xs) refl, value_back.0, value_back.1, d) refl
