-- The field that the fault of a line names is at most 11.
-- Assumes nothing.
use mathlib.Core.Path.{◌≡◌, subst}
use mathlib.Core.List.{List, [], ◌∷◌}
use Prim.Native.Nat.{ℕ, ◌+◌, ◌≤◌}
use native.Mathlib.Omega.{arith}
use lib.ListN.{length}
use Rattle.std.specs.Prelude.{Result, Ok, Err}
use Rattle.text.specs.Text.{until, beyond}
use Rattle.numbers.specs.Number.{is_number, value_from}
use Rattle.fields.specs.declared.Fault.{Fault}
use Rattle.fields.specs.declared.Fault.TheVariants.{Shape, Form, Range as OutOfRange}
use Rattle.fields.specs.declared.Range.{Range}
use Rattle.fields.specs.Fields.{after, in_range, opens, numbers_from, fields_of}
use Rattle.fields.proofs.After.{after_cases}
use Rattle.fields.proofs.Within.{cond_cases}

-- The field that a fault names; 0 for none.
abbrev pub field_in : Fault → ℕ
field_in Shape = 0
field_in (Form field) = field
field_in (OutOfRange field) = field

-- A fault of the line names field 11 at the latest.
abbrev pub FieldLe : {A : Type 0} → Result A Fault → Type 0
FieldLe (Ok a) = Unit {0}
FieldLe (Err f) = field_in f ≤ 11

-- What is made of a line names no field of its own.
pub after_field : {A B : Type 0} (r : Result A Fault) (go : A → Result B Fault) → FieldLe r → ((a : A) → r ≡ Ok a → FieldLe (go a)) → FieldLe (after r Err go)
after_field r go h g = after_cases FieldLe r Err go (λ f e. subst FieldLe e h) g

-- Numbers before number 10, which would be field 12.
pub numbers_field : (ranges : List Range) (j : ℕ) (t : List ℕ) → j + length ranges ≤ 10 → FieldLe (numbers_from ranges j t)
unfolding numbers_from
numbers_field [] j t h = tt
numbers_field (range ∷ ranges) j t h =
    let v = value_from 0 (until 9 t) in
    cond_cases FieldLe (is_number (until 9 t)) _ _
    (λ a. cond_cases FieldLe (in_range range v) _ _
    (λ b. after_field (numbers_from ranges (j + 1) (beyond 9 t)) _ (numbers_field ranges (j + 1) (beyond 9 t) (omega arith)) (λ n e. tt))
    (λ b. omega arith))
    (λ a. omega arith)

-- A line of a letter and numbers.
pub fields_field : (letter : ℕ) (ranges : List Range) (line : List ℕ) → length ranges ≤ 10 → FieldLe (fields_of letter ranges line)
unfolding fields_of
fields_field letter ranges line h =
    cond_cases FieldLe (opens letter (length ranges) line) _ _
    (λ a. after_field (numbers_from ranges 0 (beyond 9 line)) _ (numbers_field ranges 0 (beyond 9 line) (omega arith)) (λ n e. tt)) (λ a. omega arith)
