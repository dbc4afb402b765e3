-- Tests of a text that are passed, or not.
-- Assumes nothing.
use mathlib.Core.Path.{◌≡◌, refl, ap, sym, ◌∙◌}
use mathlib.Core.Bool.{Bool, true, false, cond}
use Prim.Native.Nat.{ℕ, ◌<◌}
use native.Mathlib.Decide.{dec_le, dec_lt}
use native.Mathlib.Omega.{arith}
use lib.Dec.{ltb}
use borrow.Author.Tests.{lt-ltb, le-ltb}

pub clash : true ≡ false → ◌≡◌ {A = ℕ} 0 1
clash e = ap (λ (b : Bool). cond b 0 1) e

pub cond_true : (a b : Bool) → cond a b false ≡ true → (a ≡ true) × (b ≡ true)
cond_true true b e = (refl, e)
cond_true false b e = let z = clash (sym e) in absurd (omega arith)

pub cond_else : (a b : Bool) → cond a false b ≡ true → (a ≡ false) × (b ≡ true)
cond_else true b e = let z = clash (sym e) in absurd (omega arith)
cond_else false b e = (refl, e)

pub cond_false : (b : Bool) → cond b false false ≡ false
cond_false true = refl
cond_false false = refl

-- A test that leads to what is false.
pub not_so : (b : Bool) → (b ≡ true → ⊥) → b ≡ false
not_so true n = absurd (n refl)
not_so false n = refl

-- Two tests that are not both passed.
pub not_both : {X : Type 0} (a b : Bool) (x y : X) → (a ≡ true → b ≡ true → ⊥) → cond a (cond b x y) y ≡ y
not_both true true x y n = absurd (n refl refl)
not_both true false x y n = refl
not_both false b x y n = refl

pub ltb_same : (a b c d : ℕ) → (a < b → c < d) → (c < d → a < b) → ltb a b ≡ ltb c d
ltb_same a b c d f g =
    elim (dec_lt a b) [
      | yes h ↦ lt-ltb a b h ∙ sym (lt-ltb c d (f h))
      | no n ↦ le-ltb a b (omega arith) ∙ sym (le-ltb c d (elim (dec_le d c) [ yes h ↦ h | no m ↦ absurd (n (g (omega arith))) ]))
    ]
