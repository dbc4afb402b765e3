-- A line J and the name on it (document 01, 'The sheet' and 'What is refused').
-- Assumes nothing.
use Rattle.std.specs.Prelude.{Bool, false, cond, List, ℕ, eqb, ltb, length, Result, Ok, Err}
use Rattle.text.specs.Text.{beyond, all}
use Rattle.fields.specs.Fields.{opens}
use Rattle.fields.specs.declared.Fault.{Fault}
use Rattle.fields.specs.declared.Fault.TheVariants.{Shape, Form}

-- The most bytes of a name. The constant of the code has the same name.
abbrev pub name_max : ℕ
name_max = 16

-- "name (1 to 16 bytes, each 33 to 126)"
unfoldable pub is_name : List ℕ → Bool
is_name t = cond (eqb (length t) 0) false (cond (ltb name_max (length t)) false (all 33 126 t))

-- The name on a line J: what stands behind its letter.
abbrev pub name_on : List ℕ → List ℕ
name_on line = beyond 9 line

-- What is wrong with a line J, letter 74: "J, name".
unfoldable pub name_fault : List ℕ → Result (Unit {0}) Fault
name_fault line = cond (opens 74 1 line) (cond (is_name (name_on line)) (Ok tt) (Err (Form 2))) (Err Shape)
