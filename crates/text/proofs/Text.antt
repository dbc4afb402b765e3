-- Laws of lines and fields: by the first byte of a text, and by places of a longer one.
-- Assumes nothing.
use mathlib.Core.Path.{◌≡◌, refl, ap, sym, ◌∙◌}
use mathlib.Core.Bool.{Bool, true, false, cond}
use mathlib.Core.List.{List, [], ◌∷◌}
use Prim.Native.Nat.{ℕ, zero, suc, ◌+◌, ◌-◌, ◌≤◌, ◌<◌}
use native.Mathlib.Decide.{ℕ_discrete}
use native.Mathlib.Numerals.{add-one}
use native.Mathlib.Omega.{arith}
use lib.Dec.{eqb, leb, ltb}
use lib.ListN.{length, get_or, take, drop, length-take, length-drop}
use lib.Seq.{drop-cons, get_or-take, get_or-drop}
use borrow.Author.Tests.{lt-ltb, ltb-true, ltb-false, le-leb, leb-true, eq-eqb, ne_eqb}
use Rattle.std.specs.Prelude.{Option, Some, None, position}
use Rattle.std.specs.List.{position_or_len}
use Rattle.std.specs.Option.{unwrap_or, option_map}
use Rattle.std.specs.Bool.{then_some}
use Rattle.std.proofs.lemmas.List.Recursion.{is_position_or_len}
use Rattle.std.proofs.lemmas.Option.{cond_some, none-some}
use Rattle.text.specs.declared.Line.{Line}
use Rattle.text.specs.Text.{before, until, beyond, ahead, next_line, count, all}
use Rattle.text.proofs.Tests.{cond_true}

-- ---- by the first byte

module _ (b c : ℕ) (t : List ℕ) where
  pub before_hit : c ≡ b → before b (c ∷ t) ≡ 0
  unfolding before
  before_hit e = simp (eq-eqb c b e)

  pub before_pass : (c ≡ b → ⊥) → before b (c ∷ t) ≡ suc (before b t)
  unfolding before
  before_pass n = simp (ne_eqb c b n)

  pub until_hit : c ≡ b → until b (c ∷ t) ≡ []
  unfolding until
  until_hit e = rw (before_hit e) refl

  pub until_pass : (c ≡ b → ⊥) → until b (c ∷ t) ≡ c ∷ until b t
  unfolding until
  until_pass n = rw (before_pass n) refl

  pub beyond_hit : c ≡ b → beyond b (c ∷ t) ≡ t
  unfolding beyond
  beyond_hit e = rw (before_hit e) refl

  pub beyond_pass : (c ≡ b → ⊥) → beyond b (c ∷ t) ≡ beyond b t
  unfolding beyond
  beyond_pass n = rw (before_pass n) refl

  pub count_hit : c ≡ b → count b (c ∷ t) ≡ suc (count b t)
  unfolding count
  count_hit e = simp (eq-eqb c b e)

  pub count_pass : (c ≡ b → ⊥) → count b (c ∷ t) ≡ count b t
  unfolding count
  count_pass n = simp (ne_eqb c b n)

pub before_none : (b : ℕ) → before b [] ≡ 0
unfolding before
before_none b = refl

pub until_none : (b : ℕ) → until b [] ≡ []
unfolding until before
until_none b = refl

pub count_none : (b : ℕ) → count b [] ≡ 0
unfolding count
count_none b = refl

-- ---- the text from a place on

pub drop_none : (s : List ℕ) (i : ℕ) → length s ≤ i → drop i s ≡ []
drop_none [] zero h = refl
drop_none [] (suc i) h = refl
drop_none (x ∷ s) zero h = absurd (omega arith)
drop_none (x ∷ s) (suc i) h = drop_none s i (omega arith)

pub drop_here : (s : List ℕ) (i : ℕ) → i < length s → drop i s ≡ get_or s i 0 ∷ drop (i + 1) s
drop_here s i h = rw add-one (drop-cons s i 0 h)

pub before_le : (b : ℕ) (t : List ℕ) → before b t ≤ length t
unfolding before
before_le b [] = omega arith
before_le b (c ∷ t) =
    elim (ℕ_discrete c b) [
      | yes e ↦ rw (eq-eqb c b e) (omega arith)
      | no n ↦ rw (ne_eqb c b n) (omega (arith, before_le b t))
    ]

pub length_until : (b : ℕ) (t : List ℕ) → length (until b t) ≡ before b t
unfolding until
length_until b t = let h = before_le b t in simp length-take (omega arith)

pub ahead_lt : (b : ℕ) (t : List ℕ) → ahead b t ≡ true → before b t < length t
unfolding ahead
ahead_lt b t e = ltb-true _ _ e

pub lt_ahead : (b : ℕ) (t : List ℕ) → before b t < length t → ahead b t ≡ true
unfolding ahead
lt_ahead b t h = lt-ltb _ _ h

-- Where there is a byte b, one is ahead.
pub count_ahead : (b : ℕ) (t : List ℕ) → 0 < count b t → before b t < length t
unfolding before count
count_ahead b [] h = omega arith
count_ahead b (c ∷ t) h =
    elim (ℕ_discrete c b) [
      | yes e ↦ rw (eq-eqb c b e) (omega arith)
      | no n ↦ rw (ne_eqb c b n) (omega (arith, count_ahead b t (rw (ne_eqb c b n) at h)))
    ]

-- The byte b that is ahead.
pub before_byte : (b : ℕ) (t : List ℕ) → before b t < length t → get_or t (before b t) 0 ≡ b
unfolding before
before_byte b [] h = absurd (omega arith)
before_byte b (c ∷ t) h =
    elim (ℕ_discrete c b) [
      | yes e ↦ rw (eq-eqb c b e) e
      | no n ↦ rw (ne_eqb c b n) (before_byte b t (omega (arith, rw (ne_eqb c b n) at h)))
    ]

-- The bytes before it, by their places.
pub until_byte : (b p : ℕ) (s : List ℕ) (i : ℕ) → i < before b (drop p s) → get_or (until b (drop p s)) i 0 ≡ get_or s (p + i) 0
unfolding until
until_byte b p s i h = get_or-take (before b (drop p s)) (drop p s) i 0 h ∙ get_or-drop p s i 0

-- ---- looking for a byte

-- No byte b stands in the text t before its end part `rest`.
pub record Passed (b : ℕ) (t rest : List ℕ) : Type 0 where
  pub shorter : length rest ≤ length t
  pub same : before b t ≡ length t - length rest + before b rest

before_position : (b : ℕ) (t : List ℕ) → before b t ≡ position_or_len (λ c. eqb c b) t
unfolding before
before_position b t = is_position_or_len (before b) (λ c. eqb c b) refl (λ c u. let q : 1 + before b u ≡ suc (before b u) = omega arith in rw q refl) t

-- A test that is not passed where nothing is found.
pub none_test : {A : Type 0} (b : Bool) (x : A) → None ≡ cond b (Some x) None → b ≡ false
none_test true x e = absurd (none-some x e)
none_test false x e = refl

pub place_some : (b : ℕ) (t : List ℕ) (k : ℕ) → position (λ c. eqb c b) t ≡ Some k → (k < length t) × (before b t ≡ k)
place_some b t k e =
    let h = cond_some _ _ _ e in
    (omega (arith, ltb-true _ _ h.0, h.1), before_position b t ∙ h.1)

pub place_none : (b : ℕ) (t : List ℕ) → position (λ c. eqb c b) t ≡ None → before b t ≡ length t
place_none b t e =
    let h = ltb-false _ _ (none_test _ _ (sym e)) in
    omega (arith, h, before_position b t, before_le b t)

-- The first n bytes.
pub before_take : (b n : ℕ) (t : List ℕ) → before b (take n t) < length (take n t) → before b t ≡ before b (take n t)
unfolding before
before_take b zero t h = absurd (omega arith)
before_take b (suc n) [] h = refl
before_take b (suc n) (c ∷ t) h =
    elim (ℕ_discrete c b) [
      | yes e ↦ rw (eq-eqb c b e) refl
      | no m ↦ rw (ne_eqb c b m) (ap suc (before_take b n t (omega (arith, rw (ne_eqb c b m) at h))))
    ]

pub before_drop : (b n : ℕ) (t : List ℕ) → before b (take n t) ≡ length (take n t) → before b t ≡ length (take n t) + before b (drop n t)
unfolding before
before_drop b zero t h = omega arith
before_drop b (suc n) [] h = omega arith
before_drop b (suc n) (c ∷ t) h =
    elim (ℕ_discrete c b) [
      | yes e ↦ absurd (omega (arith, rw (eq-eqb c b e) at h))
      | no m ↦ rw (ne_eqb c b m) (omega (arith, before_drop b n t (omega (arith, rw (ne_eqb c b m) at h))))
    ]

module _ {b : ℕ} {t rest : List ℕ} (z : Passed b t rest) where
  pub passed_here : (k : ℕ) → position (λ c. eqb c b) (take 8 rest) ≡ Some k → length t - length rest + k ≡ before b t
  passed_here k e =
      let h = place_some b (take 8 rest) k e in
      omega (arith, z.same, before_take b 8 rest (omega (arith, h.0, h.1)), h.1)

  pub passed_on : position (λ c. eqb c b) (take 8 rest) ≡ None → 8 ≤ length rest → Passed b t (drop 8 rest)
  passed_on e h =
      let n = place_none b (take 8 rest) e in
      let l = length-take 8 rest in
      let m = length-drop 8 rest in
      record { shorter = omega (arith, z.shorter); same = omega (arith, z.shorter, z.same, before_drop b 8 rest n) }

  pub passed_all : (r : Option ℕ) → r ≡ position (λ c. eqb c b) rest → length t - length rest + unwrap_or r (length rest) ≡ before b t
  passed_all None e = omega (arith, z.same, place_none b rest (sym e))
  passed_all (Some k) e = omega (arith, z.same, (place_some b rest k (sym e)).1)

-- ---- scanning a line

-- The first i bytes of the text t have no byte 10, and `tabs` bytes 9.
pub record Scanned (t : List ℕ) (i tabs : ℕ) : Type 0 where
  pub within : i ≤ length t
  pub few : tabs ≤ i
  pub end : before 10 t ≡ i + before 10 (drop i t)
  pub seen : count 9 (take i t) ≡ tabs

pub scanned_none : (t : List ℕ) → Scanned t 0 0
unfolding count
scanned_none t = record { within = omega arith; few = omega arith; end = omega arith; seen = refl }

count_more : (b i : ℕ) (t : List ℕ) → i < length t → count b (take (suc i) t) ≡ count b (take i t) + cond (eqb (get_or t i 0) b) 1 0
unfolding count
count_more b i [] h = absurd (omega arith)
count_more b zero (c ∷ t) h =
    elim (ℕ_discrete c b) [
      | yes e ↦ rw (eq-eqb c b e) refl
      | no m ↦ rw (ne_eqb c b m) refl
    ]
count_more b (suc i) (c ∷ t) h =
    elim (ℕ_discrete c b) [
      | yes e ↦ rw (eq-eqb c b e) (omega (arith, count_more b i t (omega arith)))
      | no m ↦ rw (ne_eqb c b m) (count_more b i t (omega arith))
    ]

module _ {t : List ℕ} {i tabs : ℕ} (z : Scanned t i tabs) where
  module _ (h : i < length t) where
    scanned_on : (k : ℕ) → (get_or t i 0 ≡ 10 → ⊥) → k ≤ i + 1 → k ≡ tabs + cond (eqb (get_or t i 0) 9) 1 0 → Scanned t (i + 1) k
    scanned_on k n l e =
        let d = ap (before 10) (drop_here t i h) ∙ before_pass 10 (get_or t i 0) (drop (i + 1) t) n in
        record { within = omega arith; few = l; end = omega (arith, z.end, d); seen = let q : i + 1 ≡ suc i = omega arith in rw q (count_more 9 i t h) ∙ ap (λ (x : ℕ). x + cond (eqb (get_or t i 0) 9) 1 0) z.seen ∙ sym e }

    pub scanned_byte : (k : ℕ) → k ≡ tabs → (get_or t i 0 ≡ 10 → ⊥) → (get_or t i 0 ≡ 9 → ⊥) → Scanned t (i + 1) k
    scanned_byte k e n m = scanned_on k n (omega (arith, e, z.few)) (rw (ne_eqb (get_or t i 0) 9 m) (omega (arith, e)))

    pub scanned_tab : (k : ℕ) → k ≡ tabs + 1 → (get_or t i 0 ≡ 10 → ⊥) → get_or t i 0 ≡ 9 → Scanned t (i + 1) k
    scanned_tab k e n m = scanned_on k n (omega (arith, e, z.few)) (rw (eq-eqb (get_or t i 0) 9 m) (omega (arith, e)))

    pub scanned_end : get_or t i 0 ≡ 10 → take i t ≡ until 10 t
    unfolding until
    scanned_end e =
        let d = ap (before 10) (drop_here t i h) ∙ before_hit 10 (get_or t i 0) (drop (i + 1) t) e in
        let q : before 10 t ≡ i = omega (arith, z.end, d) in
        rw q refl

  pub scanned_all : length t ≤ i → take i t ≡ until 10 t
  unfolding until
  scanned_all h =
      let q : before 10 t ≡ i = omega (arith, h, z.within, z.end, before_le 10 t) in
      rw q refl

-- A line that was scanned is the next one where it is shorter than the text.
pub line_shorter : (line : Line) (t : List ℕ) → line.bytes.now ≡ until 10 t →
    option_map (λ (l : Line). l.bytes.now) (then_some (ltb (length line.bytes.now) (length t)) line) ≡ next_line t
unfolding next_line ahead
line_shorter line t e =
    let q : length line.bytes.now ≡ before 10 t = ap length e ∙ length_until 10 t in
    rw q (if_so (ltb (before 10 t) (length t)))
  where
    if_so : (b : Bool) → option_map (λ (l : Line). l.bytes.now) (then_some b line) ≡ cond b (Some (until 10 t)) None
    if_so true = ap Some e
    if_so false = refl

-- ---- the next line

-- The next line of the text t.
pub record NextLine (t bytes : List ℕ) : Type 0 where
  pub ends : ahead 10 t ≡ true
  pub is : bytes ≡ until 10 t
  pub long : length bytes < length t
  pub next : beyond 10 t ≡ drop (length bytes + 1) t

pub line_some : (t bytes : List ℕ) → Some bytes ≡ next_line t → NextLine t bytes
unfolding next_line beyond
line_some t bytes e =
    let h = cond_some (ahead 10 t) (until 10 t) bytes (sym e) in
    let l : length bytes ≡ before 10 t = rw (← h.1) (length_until 10 t) in
    let q : length bytes + 1 ≡ suc (before 10 t) = omega (arith, l) in
    record { ends = h.0; is = sym h.1; long = omega (arith, l, ahead_lt 10 t h.0); next = rw q refl }

pub line_none : (t : List ℕ) → None ≡ next_line t → ahead 10 t ≡ false
unfolding next_line
line_none t e = none_test (ahead 10 t) (until 10 t) e

-- ---- every byte in a range

pub all_on : (lo hi b : ℕ) (t : List ℕ) → lo ≤ b → b ≤ hi → all lo hi (b ∷ t) ≡ all lo hi t
unfolding all
all_on lo hi b t k h = simp (le-leb lo b k, le-leb b hi h)

-- The first byte of a range, and the others.
pub all_first : (lo hi c : ℕ) (t : List ℕ) → all lo hi (c ∷ t) ≡ true → (lo ≤ c) × (c ≤ hi) × (all lo hi t ≡ true)
unfolding all
all_first lo hi c t a =
    let k = cond_true (leb lo c) _ a in
    let h = cond_true (leb c hi) _ k.1 in
    (leb-true _ _ k.0, leb-true _ _ h.0, h.1)

pub all_none : (lo hi : ℕ) → all lo hi [] ≡ true
unfolding all
all_none lo hi = refl
