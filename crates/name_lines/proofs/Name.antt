-- Laws of names and of lines J: what each test says of the name, and what a name says of its bytes.
-- Assumes nothing.
use mathlib.Core.Path.{◌≡◌, refl, sym}
use mathlib.Core.Bool.{Bool, true, false, cond}
use mathlib.Core.List.{List, [], ◌∷◌}
use Prim.Native.Nat.{ℕ, ◌≤◌, ◌<◌}
use native.Mathlib.Omega.{arith}
use lib.Dec.{eqb, leb, ltb}
use lib.ListN.{length, drop}
use Rattle.std.specs.Prelude.{Ok, Err, ◌&&◌}
use Rattle.std.specs.Char.{is_ascii_graphic}
use Rattle.std.specs.List.{list_all}
use borrow.Author.Tests.{lt-ltb, le-ltb, ne_eqb, eqb-false, ltb-false}
use Rattle.text.specs.Text.{all}
use Rattle.text.proofs.Tests.{cond_else}
use Rattle.fields.specs.Fields.{opens}
use Rattle.fields.specs.declared.Fault.TheVariants.{Shape, Form}
use Rattle.fields.proofs.Fields.{opens_beyond}
use Rattle.fields.proofs.Within.{cond_cases}
use Rattle.fields.proofs.Faults.{FieldLe}
use Rattle.name_lines.specs.Name.{name_max, is_name, name_on, name_fault}

-- ---- a name

all_list : (lo hi : ℕ) (t : List ℕ) → all lo hi t ≡ list_all (λ b. leb lo b && leb b hi) t
unfolding all
all_list lo hi [] = refl
all_list lo hi (b ∷ t) = both (leb lo b) (leb b hi) (all_list lo hi t)
  where
    both : (x y : Bool) {u v : Bool} → u ≡ v → cond x (cond y u false) false ≡ ((x && y) && v)
    both true true e = e
    both true false e = refl
    both false y e = refl

pub name_empty : (t : List ℕ) → eqb (length t) 0 ≡ true → false ≡ is_name t
unfolding is_name
name_empty t e = rw e refl

pub name_long : (t : List ℕ) → eqb (length t) 0 ≡ false → name_max < length t → false ≡ is_name t
unfolding is_name
name_long t e h = rw (e, lt-ltb name_max (length t) h) refl

pub name_letters : (t : List ℕ) → eqb (length t) 0 ≡ false → length t ≤ name_max → list_all is_ascii_graphic t ≡ is_name t
unfolding is_name
name_letters t e h = rw (e, le-ltb name_max (length t) h) (sym (all_list 33 126 t))

pub name_form : (t : List ℕ) → 0 < length t → length t ≤ name_max → is_name t ≡ all 33 126 t
unfolding is_name
name_form t h k = simp (ne_eqb (length t) 0 (λ e. omega arith), le-ltb name_max (length t) k)

-- ---- what a name says of its bytes

module _ (t : List ℕ) (e : is_name t ≡ true) where
  name_parts : (ltb name_max (length t) ≡ false) × (all 33 126 t ≡ true)
  unfolding is_name
  name_parts = cond_else (ltb name_max (length t)) _ (cond_else (eqb (length t) 0) _ e).1

  pub name_all : all 33 126 t ≡ true
  name_all = name_parts.1

  pub name_some : 0 < length t
  unfolding is_name
  name_some = let n : length t ≡ 0 → ⊥ = eqb-false _ _ (cond_else (eqb (length t) 0) _ e).0 in omega arith

  pub name_few : length t ≤ name_max
  name_few = ltb-false _ _ name_parts.0

-- ---- a line J

module _ (line : List ℕ) where
  pub name_shape : opens 74 1 line ≡ false → Err Shape ≡ name_fault line
  unfolding name_fault
  name_shape e = rw e refl

  module _ (e : opens 74 1 line ≡ true) where
    pub name_sound : is_name (drop 2 line) ≡ true → Ok tt ≡ name_fault line
    unfolding name_fault
    name_sound n = rw (e, opens_beyond 74 1 line e, n) refl

    pub name_malformed : is_name (drop 2 line) ≡ false → Err (Form 2) ≡ name_fault line
    unfolding name_fault
    name_malformed n = rw (e, opens_beyond 74 1 line e, n) refl

-- The field that its fault names is at most 11.
pub name_field : (line : List ℕ) → FieldLe (name_fault line)
unfolding name_fault
name_field line =
    cond_cases FieldLe (opens 74 1 line) _ _ (λ a. cond_cases FieldLe (is_name (name_on line)) _ _ (λ b. tt) (λ b. omega arith)) (λ a. omega arith)
