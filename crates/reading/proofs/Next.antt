-- What is known of the next line by its outcome: what it says and what is left, or where its fault is.
-- Assumes nothing.
use mathlib.Core.Path.{◌≡◌, refl, ap, sym, ◌∙◌}
use mathlib.Core.Bool.{Bool, true, false, cond}
use mathlib.Core.List.{List}
use Prim.Native.Nat.{ℕ, ◌≤◌}
use native.Mathlib.Omega.{arith}
use Rattle.std.specs.Prelude.{Result, Ok, Err}
use Rattle.text.specs.Text.{until, ahead}
use Rattle.fields.specs.declared.Fault.{Fault}
use Rattle.fields.specs.declared.Fault.TheVariants.{Shape}
use Rattle.fields.specs.Fields.{after}
use Rattle.fields.proofs.Faults.{field_in, FieldLe}
use Rattle.reading.specs.declared.LineFault.{LineFault}
use Rattle.reading.specs.Rest.{Rest, next_rest, fault_of, next_by}

-- The next line of r was read as x.
pub record LineRead {A : Type 0} (read : List ℕ → Result A Fault) (r : Rest) (x : A × Rest) : Type 0 where
  pub ends : ahead 10 r.text ≡ true
  pub says : read (until 10 r.text) ≡ Ok x.0
  pub rest : x.1 ≡ next_rest r

pub line_read : {A : Type 0} (read : List ℕ → Result A Fault) (r : Rest) (x : A × Rest) → next_by read r ≡ Ok x → LineRead read r x
unfolding next_by
line_read {A} read r x = go (ahead 10 r.text) (read (until 10 r.text)) refl refl
  where
    go : (b : Bool) (said : Result A Fault) → ahead 10 r.text ≡ b → read (until 10 r.text) ≡ said →
        cond b (after {X = Result (A × Rest) LineFault} said (λ f. Err (fault_of r f)) (λ a. Ok (a, next_rest r))) (Err (fault_of r Shape)) ≡ Ok x → LineRead read r x
    go true (Ok a) e q h =
        let p : (a, next_rest r) ≡ x = cc in
        record { ends = e; says = q ∙ ap (λ (y : A × Rest). Ok y.0) p; rest = sym (ap (λ (y : A × Rest). y.1) p) }
    go true (Err f) e q h = absurd cc
    go false said e q h = absurd cc

-- The next line of r has the fault f, of field 11 at the latest.
pub record FaultAt (r : Rest) (f : LineFault) : Type 0 where
  pub line : f.line ≡ r.line
  pub field : field_in f.fault ≤ 11

pub line_fault : {A : Type 0} (read : List ℕ → Result A Fault) (r : Rest) (f : LineFault) → FieldLe (read (until 10 r.text)) → next_by read r ≡ Err f → FaultAt r f
unfolding next_by
line_fault {A} read r f h = go (ahead 10 r.text) (read (until 10 r.text)) h
  where
    go : (b : Bool) (said : Result A Fault) → FieldLe said →
        cond b (after {X = Result (A × Rest) LineFault} said (λ g. Err (fault_of r g)) (λ a. Ok (a, next_rest r))) (Err (fault_of r Shape)) ≡ Err f → FaultAt r f
    go true (Ok a) k e = absurd cc
    go true (Err g) k e = let q : fault_of r g ≡ f = cc in rw (← q) (record { line = refl; field = k })
    go false said k e = let q : fault_of r Shape ≡ f = cc in rw (← q) (record { line = refl; field = omega arith })
