-- Laws of lines: what each test of the reader says of the line.
-- Assumes nothing.
use mathlib.Core.Path.{◌≡◌, refl, ap, sym, ◌∙◌}
use mathlib.Core.Bool.{true, false}
use mathlib.Core.List.{List, [], ◌∷◌, ◌++◌}
use Prim.Native.Nat.{ℕ, zero, suc, ◌+◌, ◌≤◌, ◌<◌}
use native.Mathlib.Omega.{arith}
use lib.Dec.{eqb, leb}
use lib.ListN.{length, get_or, set, take, drop, length-set}
use lib.Seq.{drop-cons, take_all}
use borrow.Author.Tests.{leb-true, eqb-true}
use Rattle.std.specs.Prelude.{Result, Ok, Err, Some, None}
use Rattle.text.specs.Text.{before, until, beyond, count}
use Rattle.numbers.specs.Number.{is_number, value_from, next_number}
use Rattle.text.proofs.Text.{none_test}
use Rattle.text.proofs.Tests.{cond_true}
use Rattle.std.proofs.lemmas.Bool.{and_parts}
use Rattle.std.proofs.lemmas.Option.{cond_some}
use Rattle.std.proofs.Common.{append_assoc, append-nil}
use Rattle.std.proofs.lemmas.List.{drop_all}
use Rattle.fields.specs.declared.Fault.{Fault}
use Rattle.fields.specs.declared.Fault.TheVariants.{Shape, Form, Range as OutOfRange}
use Rattle.fields.specs.declared.Range.{Range}
use Rattle.fields.specs.Fields.{Fields, after, in_range, opens, numbers_from, fields_of}

-- ---- the letter and the count of fields

module _ (letter k : ℕ) (line : List ℕ) (e : opens letter k line ≡ true) where
  -- A line that opens so has the letter alone before its first byte 9, and k bytes 9.
  pub opens_before : before 9 line ≡ 1
  unfolding opens
  opens_before = eqb-true _ _ (cond_true (eqb (before 9 line) 1) _ e).0

  letter_tabs : (eqb (get_or line 0 0) letter ≡ true) × (eqb (count 9 line) k ≡ true)
  unfolding opens
  letter_tabs = cond_true (eqb (get_or line 0 0) letter) _ (cond_true (eqb (before 9 line) 1) _ e).1

  pub opens_letter : get_or line 0 0 ≡ letter
  opens_letter = eqb-true _ _ letter_tabs.0

  pub opens_tabs : count 9 line ≡ k
  opens_tabs = eqb-true _ _ letter_tabs.1

  -- What comes after the letter.
  pub opens_beyond : beyond 9 line ≡ drop 2 line
  unfolding beyond
  opens_beyond = rw opens_before refl

-- ---- numbers

pub in_range_ends : (range : Range) (v : ℕ) → in_range range v ≡ true → (range.least ≤ v) × (v ≤ range.most)
in_range_ends range v e = let h = and_parts (leb range.least v) (leb v range.most) e in (leb-true _ _ h.0, leb-true _ _ h.1)

module _ (t : List ℕ) where
  -- What a field that was read says of the bytes.
  pub number_none : None ≡ next_number t → is_number (until 9 t) ≡ false
  unfolding next_number
  number_none = none_test (is_number (until 9 t)) (value_from 0 (until 9 t), beyond 9 t)

  pub number_some : (v : ℕ) (rest : List ℕ) → Some (v, rest) ≡ next_number t →
      (is_number (until 9 t) ≡ true) × (value_from 0 (until 9 t) ≡ v) × (beyond 9 t ≡ rest)
  unfolding next_number
  number_some v rest e = let h = cond_some _ _ _ (sym e) in (h.0, ap (λ (n : ℕ × List ℕ). n.0) h.1, ap (λ (n : ℕ × List ℕ). n.1) h.1)

-- Numbers that were read, in front of those that a line has behind them.
abbrev pub in_front : List ℕ → Result Fields Fault → Result Fields Fault
in_front xs r = after r Err (λ n. Ok (record { values = xs ++ n.values; rest = n.rest }))

in_front_none : (r : Result Fields Fault) → in_front [] r ≡ r
in_front_none (Ok n) = refl
in_front_none (Err f) = refl

in_front_more : (xs : List ℕ) (v : ℕ) (r : Result Fields Fault) → in_front xs (in_front (v ∷ []) r) ≡ in_front (xs ++ v ∷ []) r
in_front_more xs v (Ok n) = rw append_assoc refl
in_front_more xs v (Err f) = refl

take_set : (j v : ℕ) (xs : List ℕ) → j < length xs → take (suc j) (set xs j v) ≡ take j xs ++ v ∷ []
take_set j v [] h = absurd (omega arith)
take_set zero v (x ∷ xs) h = refl
take_set (suc j) v (x ∷ xs) h = ap (λ (ys : List ℕ). x ∷ ys) (take_set j v xs (omega arith))

-- The range of number j.
abbrev pub range_at : List Range → ℕ → Range
range_at ranges j = get_or ranges j (record { least = 0; most = 0 })

-- Of numbers in the ranges, from number `first` on of the rest t of a line, the first j are read.
pub record Reading (ranges : List Range) (first : ℕ) (t values rest : List ℕ) (j : ℕ) : Type 0 where
  pub long : length values ≡ length ranges
  pub same : numbers_from ranges first t ≡ in_front (take j values) (numbers_from (drop j ranges) (first + j) rest)

pub reading_none : (ranges : List Range) (first : ℕ) (t values : List ℕ) → length values ≡ length ranges → Reading ranges first t values t 0
reading_none ranges first t values h = let z : first + 0 ≡ first = omega arith in record { long = h; same = rw z (sym (in_front_none (numbers_from ranges first t))) }

module _ {ranges : List Range} {first : ℕ} {t values rest : List ℕ} {j : ℕ} (g : Reading ranges first t values rest j) where
  pub reading_all : length ranges ≤ j → Ok (record { values = values; rest = rest }) ≡ numbers_from ranges first t
  unfolding numbers_from
  reading_all h =
      rw (g.same, drop_all j ranges h, take_all j values (omega (arith, g.long)), append-nil values) refl

  module _ (h : j < length ranges) where
    here : drop j ranges ≡ range_at ranges j ∷ drop (suc j) ranges
    here = drop-cons ranges j (record { least = 0; most = 0 }) h

    pub reading_form : None ≡ next_number rest → Err (Form (first + j + 2)) ≡ numbers_from ranges first t
    unfolding numbers_from
    reading_form e = sym (g.same ∙ rw (here, number_none rest e) refl)

    module _ (v : ℕ) (more : List ℕ) (e : Some (v, more) ≡ next_number rest) where
      pub reading_out : in_range (range_at ranges j) v ≡ false → Err (OutOfRange (first + j + 2)) ≡ numbers_from ranges first t
      unfolding numbers_from
      reading_out m =
          let n = number_some rest v more e in
          sym (g.same ∙ rw (here, n.0, n.1, m) refl)

      pub reading_on : in_range (range_at ranges j) v ≡ true → Reading ranges first t (set values j v) more (j + 1)
      unfolding numbers_from
      reading_on m =
          let n = number_some rest v more e in
          let q : j + 1 ≡ suc j = omega arith in
          let p : first + j + 1 ≡ first + suc j = omega arith in
          record {
            long = length-set values j v ∙ g.long;
            same = g.same ∙ rw (q, here, n.0, n.1, n.2, m, p, take_set j v values (omega (arith, g.long, h)))
                (in_front_more (take j values) v (numbers_from (drop (suc j) ranges) (first + suc j) more));
          }

-- ---- whole lines

module _ (letter : ℕ) (ranges : List Range) (line : List ℕ) where
  pub fields_shape : opens letter (length ranges) line ≡ false → Err Shape ≡ fields_of letter ranges line
  unfolding fields_of
  fields_shape e = rw e refl

  pub fields_numbers : opens letter (length ranges) line ≡ true → (r : Result Fields Fault) → r ≡ numbers_from ranges 0 (drop 2 line) →
      after r Err (λ n. Ok n.values) ≡ fields_of letter ranges line
  unfolding fields_of
  fields_numbers e r q = rw (e, opens_beyond letter (length ranges) line e, q) refl
