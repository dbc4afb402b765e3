-- The numbers of a sound line lie in their ranges.
-- Assumes nothing.
use mathlib.Core.Path.{◌≡◌, refl, subst}
use mathlib.Core.Bool.{Bool, true, false, cond}
use mathlib.Core.List.{List, [], ◌∷◌}
use Prim.Native.Nat.{ℕ, zero, suc, ◌+◌, ◌≤◌, ◌<◌}
use native.Mathlib.Omega.{arith}
use lib.ListN.{length, get_or}
use Rattle.std.specs.Prelude.{Ok}
use Rattle.text.specs.Text.{until, beyond}
use Rattle.numbers.specs.Number.{is_number, value_from}
use Rattle.fields.specs.declared.Range.{Range}
use Rattle.fields.specs.Fields.{Fields, in_range, opens, numbers_from, fields_of}
use Rattle.fields.proofs.Fields.{in_range_ends, range_at}
use Rattle.fields.proofs.After.{after_ok, cond_ok}

-- What holds after a test.
pub cond_cases : {X : Type 0} (P : X → Type 0) (b : Bool) (x y : X) → (b ≡ true → P x) → (b ≡ false → P y) → P (cond b x y)
cond_cases P true x y f g = f refl
cond_cases P false x y f g = g refl

-- Numbers lie in their ranges, one by one.
abbrev pub Held : List Range → List ℕ → Type 0
Held [] [] = Unit {0}
Held [] (v ∷ vs) = ⊥
Held (range ∷ ranges) [] = ⊥
Held (range ∷ ranges) (v ∷ vs) = (range.least ≤ v) × (v ≤ range.most) × Held ranges vs

pub held_at : (ranges : List Range) (vs : List ℕ) (i : ℕ) → Held ranges vs → i < length ranges →
    ((range_at ranges i).least ≤ get_or vs i 0) × (get_or vs i 0 ≤ (range_at ranges i).most)
held_at [] vs i h l = absurd (omega arith)
held_at (range ∷ ranges) [] i h l = absurd h
held_at (range ∷ ranges) (v ∷ vs) zero h l = (h.0, h.1)
held_at (range ∷ ranges) (v ∷ vs) (suc i) h l = held_at ranges vs i h.2 (omega arith)

pub numbers_held : (ranges : List Range) (j : ℕ) (t : List ℕ) (n : Fields) → numbers_from ranges j t ≡ Ok n → Held ranges n.values
unfolding numbers_from
numbers_held [] j t n e = let q : [] ≡ n.values = cc in subst (Held []) q tt
numbers_held (range ∷ ranges) j t n e =
    let v = value_from 0 (until 9 t) in
    let a = cond_ok (is_number (until 9 t)) _ _ n e in
    let b = cond_ok (in_range range v) _ _ n a.1 in
    let h = in_range_ends range v b.0 in
    let d = after_ok (numbers_from ranges (j + 1) (beyond 9 t)) _ n b.1 in
    let q : v ∷ d.0.values ≡ n.values = cc in
    subst (Held (range ∷ ranges)) q
    (h.0, h.1, numbers_held ranges (j + 1) (beyond 9 t) d.0 d.1)

-- The numbers of a sound line of a letter and numbers.
pub fields_held : (letter : ℕ) (ranges : List Range) (line vs : List ℕ) → fields_of letter ranges line ≡ Ok vs → Held ranges vs
unfolding fields_of
fields_held letter ranges line vs e =
    let a = cond_ok (opens letter (length ranges) line) _ _ vs e in
    let d = after_ok (numbers_from ranges 0 (beyond 9 line)) _ vs a.1 in
    let q : d.0.values ≡ vs = cc in
    subst (Held ranges) q (numbers_held ranges 0 (beyond 9 line) d.0 d.1)
