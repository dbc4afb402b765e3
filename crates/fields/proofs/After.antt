-- What follows a line, by its outcome.
-- Assumes nothing.
use mathlib.Core.Path.{◌≡◌, refl}
use mathlib.Core.Bool.{Bool, true, false, cond}
use Rattle.std.specs.Prelude.{Result, Ok, Err}
use Rattle.fields.specs.Fields.{after}
use Rattle.fields.specs.declared.Fault.{Fault}

-- What holds after a line.
pub after_cases : {A E X : Type 0} (P : X → Type 0) (r : Result A E) (stop : E → X) (go : A → X) →
    ((f : E) → r ≡ Err f → P (stop f)) → ((a : A) → r ≡ Ok a → P (go a)) → P (after r stop go)
after_cases P (Ok a) stop go f g = g a refl
after_cases P (Err e) stop go f g = f e refl

-- What a line says, where what is made of it says something.
pub after_ok : {A B E : Type 0} (r : Result A E) (go : A → Result B E) (b : B) → after r Err go ≡ Ok b → (a : A) × (r ≡ Ok a) × (go a ≡ Ok b)
after_ok (Ok a) go b e = (a, refl, e)
after_ok (Err f) go b e = absurd cc

-- A test that is passed where something is said.
pub cond_ok : {B : Type 0} (t : Bool) (x : Result B Fault) (f : Fault) (b : B) → cond t x (Err f) ≡ Ok b → (t ≡ true) × (x ≡ Ok b)
cond_ok true x f b e = (refl, e)
cond_ok false x f b e = absurd cc

pub cond_fault : {B : Type 0} (t : Bool) (x : Result B Fault) (f : Fault) (b : B) → cond t (Err f) x ≡ Ok b → (t ≡ false) × (x ≡ Ok b)
cond_fault true x f b e = absurd cc
cond_fault false x f b e = (refl, e)
