-- Laws of lines that are taken in one pass: the letter, one number more, and the last; and what a sound line has at each of these
-- steps.
-- Assumes nothing.
use mathlib.Core.Path.{◌≡◌, refl, ap, sym, ◌∙◌}
use mathlib.Core.Bool.{Bool, true, false, cond, ◌&&◌}
use mathlib.Core.List.{List, [], ◌∷◌}
use Prim.Native.Nat.{ℕ, zero, suc, ◌+◌, ◌≤◌, ◌<◌, ◌^◌}
use native.Mathlib.Decide.{ℕ_discrete}
use native.Mathlib.Omega.{arith}
use lib.Dec.{eqb, leb}
use lib.ListN.{length, get_or, drop}
use borrow.Author.Tests.{le-leb, leb-true, eq-eqb, ne_eqb, eqb-true}
use Rattle.std.specs.Prelude.{Option, Some, None, Result, Ok, Err}
use Rattle.std.specs.List.{starts_with}
use Rattle.std.specs.Option.{option_map, option_and_then}
use Rattle.text.specs.Text.{before, until, ahead, count, all}
use Rattle.text.proofs.Text.{before_byte, until_byte, until_hit, until_pass, count_ahead, drop_here, length_until, lt_ahead, all_none, all_on}
use Rattle.text.proofs.Tests.{clash, cond_true}
use Rattle.numbers.specs.Number.{is_number, value_from}
use Rattle.fields.specs.Fields.{Fields, after, in_range, opens, numbers_from, fields_of}
use Rattle.fields.specs.declared.Fault.{Fault}
use Rattle.fields.specs.declared.Fault.TheVariants.{Shape}
use Rattle.fields.specs.declared.Range.{Range}
use Rattle.fields.proofs.Fields.{opens_before, opens_letter, opens_tabs, in_range_ends}
use Rattle.fast_fields.specs.Take.{taken, starts, line_taken, ShortRanges}
use Rattle.fast_fields.proofs.Onward.{all_count, Onward, onward, first_field, one_field}
use Rattle.numbers.proofs.Digits.{number_all}
use Rattle.fast_fields.proofs.Number.{number_few, Short, NumberAt, taken_so, taken_number}

-- ---- the letter

-- The text t has `room` bytes, and the first of them are the letter and a byte 9.
pub record Starts (letter room : ℕ) (t : List ℕ) : Type 0 where
  pub within : room ≤ length t
  pub first : get_or t 0 0 ≡ letter
  pub second : get_or t 1 0 ≡ 9

eqb_turn : (a b : ℕ) → eqb a b ≡ eqb b a
eqb_turn a b =
    elim (ℕ_discrete a b) [
      | yes e ↦ eq-eqb a b e ∙ sym (eq-eqb b a (sym e))
      | no n ↦ ne_eqb a b n ∙ sym (ne_eqb b a (λ e. n (sym e)))
    ]

-- The library's test of the first two bytes.
pub starts_test : (letter room : ℕ) (t : List ℕ) → 2 ≤ room → room ≤ length t → starts_with eqb t (letter ∷ 9 ∷ []) ≡ starts letter room t
unfolding starts
starts_test letter room [] two h = absurd (omega arith)
starts_test letter room (a ∷ []) two h = absurd (omega arith)
starts_test letter room (a ∷ b ∷ t) two h = rw (le-leb _ _ h, eqb_turn a letter, eqb_turn b 9) (go (eqb letter a) (eqb 9 b))
  where
    go : (x y : Bool) → (x && (y && true)) ≡ cond x y false
    go true true = refl
    go true false = refl
    go false y = refl

module _ (letter room : ℕ) (t : List ℕ) where
  pub starts_is : starts letter room t ≡ true → Starts letter room t
  unfolding starts
  starts_is e =
      let a = cond_true (leb room (length t)) _ e in
      let b = cond_true (eqb (get_or t 0 0) letter) _ a.1 in
      record { within = leb-true _ _ a.0; first = eqb-true _ _ b.0; second = eqb-true _ _ b.1 }

  -- A line that opens with the letter and has fields behind it starts so.
  pub opens_starts : (k : ℕ) → 0 < k → room ≤ length t → opens letter k (until 10 t) ≡ true → starts letter room t ≡ true
  unfolding starts
  opens_starts k h l e =
      let line = until 10 t in
      let one = opens_before letter k line e in
      let two = count_ahead 9 line (omega (arith, opens_tabs letter k line e)) in
      let n = length_until 10 t in
      let a = sym (until_byte 10 0 t 0 (omega arith)) ∙ opens_letter letter k line e in
      let b = sym (until_byte 10 0 t 1 (omega arith)) ∙ ap (λ (i : ℕ). get_or line i 0) (sym one) ∙ before_byte 9 line two in
      rw (le-leb _ _ l, eq-eqb _ _ a, eq-eqb _ _ b) refl

eqb_suc : (a b : ℕ) → eqb (suc a) (suc b) ≡ eqb a b
eqb_suc a b =
    elim (ℕ_discrete a b) [
      | yes e ↦ eq-eqb (suc a) (suc b) (ap suc e) ∙ sym (eq-eqb a b e)
      | no n ↦ ne_eqb (suc a) (suc b) (λ e. n (omega arith)) ∙ sym (ne_eqb a b n)
    ]

module _ {letter room : ℕ} {t : List ℕ} (z : Starts letter room t) (high : 65 ≤ letter) (two : 2 ≤ room) where
  -- Its first field is the letter.
  one_letter : until 9 t ≡ letter ∷ []
  one_letter =
      let l = z.within in
      let f = z.first in
      let a = ap (until 9) (drop_here t 0 (omega arith)) ∙ until_pass 9 (get_or t 0 0) (drop 1 t) (λ w. omega arith) in
      let b = ap (until 9) (drop_here t 1 (omega arith)) ∙ until_hit 9 (get_or t 1 0) (drop 2 t) z.second in
      a ∙ rw (b, f) refl

  one_before : before 9 t ≡ 1
  one_before = sym (length_until 9 t) ∙ ap length one_letter

  pub starts_onward : Onward t 2
  starts_onward =
      onward letter letter (omega arith) t 2
      (ap (all letter letter) one_letter ∙ all_on letter letter letter [] (omega arith) (omega arith) ∙ all_none letter letter)
      (lt_ahead 9 t (omega (arith, one_before, z.within))) (omega (arith, one_before))

  -- The line's count of fields says whether it opens so.
  pub starts_opens : (k : ℕ) → opens letter (suc k) (until 10 t) ≡ eqb (count 9 (until 10 (drop 2 t))) k
  unfolding opens
  starts_opens k =
      let o = starts_onward in
      let line = until 10 t in
      let a : before 9 line ≡ 1 = sym (length_until 9 line) ∙ ap length o.field ∙ ap length one_letter in
      let f : get_or line 0 0 ≡ letter = until_byte 10 0 t 0 (omega (arith, o.end)) ∙ z.first in
      rw (eq-eqb _ _ a, eq-eqb _ _ f, o.tabs) (eqb_suc (count 9 (until 10 (drop 2 t))) k)

-- ---- numbers

-- The byte that ends a number with n numbers behind it in its line.
abbrev pub stop_at : ℕ → ℕ
stop_at zero = 10
stop_at (suc n) = 9

-- Numbers that were taken, and how many bytes they have with the bytes behind them.
abbrev pub Taken : Type 0
Taken = Option (List ℕ × ℕ)

-- One number more, of k digits, before those that are taken behind it.
abbrev pub joined : ℕ → ℕ → Taken → Taken
joined v k r = option_map (λ x. (v ∷ x.0, k + 1 + x.1)) r

-- The numbers that are taken of the text t, one behind the other.
unfoldable pub numbers_taken : List Range → List ℕ → Taken
numbers_taken [] t = Some ([], 0)
numbers_taken (range ∷ ranges) t =
    option_and_then (λ x. joined x.0 x.1 (numbers_taken ranges (drop (x.1 + 1) t))) (taken (stop_at (length ranges)) range t)

-- What the rest t of a line says of a number in the range, number j, and of those behind it, and how many bytes it has.
abbrev rest_says : Range → List Range → ℕ → List ℕ → Taken
rest_says range ranges j t =
    cond (ahead 10 t) (cond (eqb (count 9 (until 10 t)) (length ranges)) (after (numbers_from (range ∷ ranges) j (until 10 t)) (λ f. None) (λ n. Some (n.values, before 10 t + 1))) None) None

-- Of a line with n bytes 9, the first field and the byte that ends it.
first_stop : (n : ℕ) (t : List ℕ) → ahead 10 t ≡ true → count 9 (until 10 t) ≡ n →
    (ahead (stop_at n) t ≡ true) × (until (stop_at n) t ≡ until 9 (until 10 t))
first_stop zero t a c = (a, sym (one_field (until 10 t) c))
first_stop (suc n) t a c = let f = first_field t (omega arith) in (lt_ahead 9 t f.1, f.0)

-- A text of which a number is taken gives no other answer.
none_some : {X : Type 0} {x : X} {o : Option X} → o ≡ Some x → o ≡ None → ⊥
none_some {X} {x} {o} a b = let z : ◌≡◌ {A = Option X} (Some x) None = sym a ∙ b in let n : ◌≡◌ {A = ℕ} 0 1 = cc in omega arith

module _ (range : Range) (ranges : List Range) (j : ℕ) (t : List ℕ) where
  -- Where the next number is not taken, the line is not sound.
  rest_none : range.most < 10 ^ 8 → taken (stop_at (length ranges)) range t ≡ None → rest_says range ranges j t ≡ None
  unfolding numbers_from
  rest_none h e = lines (ahead 10 t) (eqb (count 9 (until 10 t)) (length ranges)) refl refl
    where
      line : List ℕ
      line = until 10 t

      v : ℕ
      v = value_from 0 (until 9 line)

      says : Result Fields Fault → Taken
      says r = after r (λ f. None) (λ n. Some (n.values, before 10 t + 1))

      go : (a b : Bool) → is_number (until 9 line) ≡ a → in_range range v ≡ b →
          (ahead (stop_at (length ranges)) t ≡ true) × (until (stop_at (length ranges)) t ≡ until 9 line) → (r : Result Fields Fault) (f g : Fault) →
          says (cond a (cond b r (Err f)) (Err g)) ≡ None
      go true true a b y r f g =
          let m = in_range_ends range v b in
          let s : Short range (until 9 line) = record { form = a; few = number_few 8 (omega arith) _ a (omega (arith, m.1)); within = b } in
          absurd (none_some (taken_so _ range t y.0 (rw y.1 s)) e)
      go true false a b y r f g = refl
      go false b a d y r f g = refl

      lines : (a b : Bool) → ahead 10 t ≡ a → eqb (count 9 line) (length ranges) ≡ b → cond a (cond b (says (numbers_from (range ∷ ranges) j line)) None) None ≡ None
      lines true true a b =
          go (is_number (until 9 line)) (in_range range v) refl refl (first_stop (length ranges) t a (eqb-true _ _ b)) _ _ _
      lines true false a b = refl
      lines false b a c = refl

module _ (range : Range) (j : ℕ) (t : List ℕ) {v k : ℕ} where
  -- The last number ends the line.
  rest_last : NumberAt 10 range t v k → rest_says range [] j t ≡ Some (v ∷ [], k + 1)
  unfolding numbers_from
  rest_last z =
      let f = z.short in
      let c = all_count 48 57 (omega arith) _ (number_all _ f.form) in
      rw (z.stops, c, one_field _ c, f.form, f.within, ← z.value, ← z.size) refl

  -- One number more.
  rest_more : (next : Range) (ranges : List Range) → NumberAt 9 range t v k →
      rest_says range (next ∷ ranges) j t ≡ joined v k (rest_says next ranges (j + 1) (drop (k + 1) t))
  unfolding numbers_from
  rest_more next ranges z =
      let f = z.short in
      let u = drop (k + 1) t in
      let o = onward 48 57 (omega arith) t (k + 1) (number_all _ f.form) z.stops (omega (arith, z.size)) in
      rw (o.ends, o.tabs, eqb_suc (count 9 (until 10 u)) (length ranges), o.field, f.form, f.within, o.rest, ← z.value)
      (go (ahead 10 u) (eqb (count 9 (until 10 u)) (length ranges)) (numbers_from (next ∷ ranges) (j + 1) (until 10 u)) _ _ (omega (arith, o.end)))
    where
      go : (a b : Bool) (r : Result Fields Fault) (m n : ℕ) → m ≡ k + 1 + n →
          cond a (cond b (after (after {X = Result Fields Fault} r Err (λ n. Ok (record { values = v ∷ n.values; rest = n.rest }))) (λ f. None) (λ n. Some (n.values, m))) None) None
          ≡ joined v k (cond a (cond b (after r (λ f. None) (λ x. Some (x.values, n))) None) None)
      go true true (Ok x) m n e = rw e refl
      go true true (Err f) m n e = refl
      go true false r m n e = refl
      go false b r m n e = refl

-- The numbers of a line are taken where the line is sound.
rest_taken : (range : Range) (ranges : List Range) (j : ℕ) (t : List ℕ) → ShortRanges (range ∷ ranges) →
    numbers_taken (range ∷ ranges) t ≡ rest_says range ranges j t
unfolding numbers_taken
rest_taken range [] j t h = go (taken 10 range t) refl
  where
    go : (o : Option (ℕ × ℕ)) → taken 10 range t ≡ o → option_and_then (λ x. joined x.0 x.1 (Some ([], 0))) o ≡ rest_says range [] j t
    go None e = sym (rest_none range [] j t h.0 e)
    go (Some x) e = let z : x.1 + 1 + 0 ≡ x.1 + 1 = omega arith in rw z (sym (rest_last range j t (taken_number 10 range t x.0 x.1 e)))
rest_taken range (next ∷ ranges) j t h = go (λ k. rest_taken next ranges (j + 1) (drop (k + 1) t) h.1) (taken 9 range t) refl
  where
    go : ((k : ℕ) → numbers_taken (next ∷ ranges) (drop (k + 1) t) ≡ rest_says next ranges (j + 1) (drop (k + 1) t)) →
        (o : Option (ℕ × ℕ)) → taken 9 range t ≡ o →
        option_and_then (λ x. joined x.0 x.1 (numbers_taken (next ∷ ranges) (drop (x.1 + 1) t))) o ≡ rest_says range (next ∷ ranges) j t
    go r None e = sym (rest_none range (next ∷ ranges) j t h.0 e)
    go r (Some x) e = ap (joined x.0 x.1) (r x.1) ∙ sym (rest_more range j t next ranges (taken_number 9 range t x.0 x.1 e))

-- ---- whole lines

-- The next line of the text t, of n bytes with its byte 10, is sound and says a, as `read` has it.
pub record LineAt {A : Type 0} (room : ℕ) (read : List ℕ → Result A Fault) (t : List ℕ) (a : A) (n : ℕ) : Type 0 where
  pub within : room ≤ length t
  pub ends : ahead 10 t ≡ true
  pub says : read (until 10 t) ≡ Ok a
  pub size : n ≡ before 10 t + 1

module _ {A : Type 0} (room : ℕ) (read : List ℕ → Result A Fault) (t : List ℕ) where
  pub line_takes : {a : A} {n : ℕ} → LineAt room read t a n → line_taken room read t ≡ Some (a, n)
  unfolding line_taken
  line_takes z = rw (le-leb _ _ z.within, z.ends, z.says, z.size) refl

  pub line_left : ((a : A) → LineAt room read t a (before 10 t + 1) → ⊥) → line_taken room read t ≡ None
  unfolding line_taken
  line_left n = go (leb room (length t)) (ahead 10 t) (read (until 10 t)) refl refl refl
    where
      go : (a b : Bool) (r : Result A Fault) → leb room (length t) ≡ a → ahead 10 t ≡ b → read (until 10 t) ≡ r →
          ◌≡◌ {A = Option (A × ℕ)} (cond a (cond b (after r (λ f. None) (λ x. Some (x, before 10 t + 1))) None) None) None
      go true true (Ok x) a b e = absurd (n x (record { within = leb-true _ _ a; ends = b; says = e; size = refl }))
      go true true (Err f) a b e = refl
      go true false r a b e = refl
      go false b r a c e = refl

  pub line_at : {a : A} {n : ℕ} → line_taken room read t ≡ Some (a, n) → LineAt room read t a n
  unfolding line_taken
  line_at {a} {n} = go (leb room (length t)) (ahead 10 t) (read (until 10 t)) refl refl refl
    where
      go : (b c : Bool) (r : Result A Fault) → leb room (length t) ≡ b → ahead 10 t ≡ c → read (until 10 t) ≡ r →
          ◌≡◌ {A = Option (A × ℕ)} (cond b (cond c (after r (λ f. None) (λ x. Some (x, before 10 t + 1))) None) None) (Some (a, n)) → LineAt room read t a n
      go true true (Ok x) b c e q =
          let p : ◌≡◌ {A = A × ℕ} (x, before 10 t + 1) (a, n) = cc in
          record {
            within = leb-true _ _ b;
            ends = c;
            says = e ∙ ap (λ (y : A × ℕ). Ok y.0) p;
            size = sym (ap (λ (y : A × ℕ). y.1) p);
          }
      go true true (Err f) b c e q = absurd (none_some q refl)
      go true false r b c e q = absurd (none_some q refl)
      go false c r b d e q = absurd (none_some q refl)

-- A line of a letter and numbers is taken where it starts so and its numbers are taken.
module _ (letter room : ℕ) (range : Range) (ranges : List Range) (t : List ℕ) where
  opened : {a : List ℕ} → fields_of letter (range ∷ ranges) (until 10 t) ≡ Ok a → opens letter (length (range ∷ ranges)) (until 10 t) ≡ true
  unfolding fields_of
  opened = go (opens letter (length (range ∷ ranges)) (until 10 t)) _
    where
      go : {a : List ℕ} (b : Bool) (r : Result (List ℕ) Fault) → ◌≡◌ {A = Result (List ℕ) Fault} (cond b r (Err Shape)) (Ok a) → b ≡ true
      go true r e = refl
      go false r e = let n : ◌≡◌ {A = ℕ} 0 1 = cc in absurd (omega arith)

  pub line_unstarted : starts letter room t ≡ false → line_taken room (fields_of letter (range ∷ ranges)) t ≡ None
  line_unstarted e =
      line_left room (fields_of letter (range ∷ ranges)) t (λ a z.
      let n : ◌≡◌ {A = ℕ} 0 1 = clash (sym (opens_starts letter room t _ (omega arith) z.within (opened z.says)) ∙ e) in
      omega arith)

  pub line_numbers : Starts letter room t → 65 ≤ letter → 2 ≤ room → ShortRanges (range ∷ ranges) →
      line_taken room (fields_of letter (range ∷ ranges)) t ≡ option_map (λ x. (x.0, 2 + x.1)) (numbers_taken (range ∷ ranges) (drop 2 t))
  unfolding line_taken fields_of
  line_numbers z high two h =
      let u = drop 2 t in
      let o = starts_onward z high two in
      rw (le-leb _ _ z.within, o.ends, starts_opens z high two (length ranges), o.rest, rest_taken range ranges 0 u h)
      (go (ahead 10 u) (eqb (count 9 (until 10 u)) (length ranges)) (numbers_from (range ∷ ranges) 0 (until 10 u)) _ _ (omega (arith, o.end)))
    where
      go : (a b : Bool) (r : Result Fields Fault) (m n : ℕ) → m ≡ 2 + n →
          cond a (after {X = Option (List ℕ × ℕ)} (cond b (after {X = Result (List ℕ) Fault} r Err (λ n. Ok n.values)) (Err Shape)) (λ f. None) (λ x. Some (x, m))) None
          ≡ option_map (λ x. (x.0, 2 + x.1)) (cond a (cond b (after {X = Option (List ℕ × ℕ)} r (λ f. None) (λ x. Some (x.values, n))) None) None)
      go true true (Ok x) m n e = rw e refl
      go true true (Err f) m n e = refl
      go true false r m n e = refl
      go false b r m n e = refl
