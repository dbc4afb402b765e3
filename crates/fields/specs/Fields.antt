-- What a line of a sheet says (document 01, 'The sheet' and 'What is refused'): its letter, its count of fields, and its fields
-- from the left, "each one's form and then its range before the next field".
-- Assumes nothing.
use Rattle.std.specs.Prelude.{Bool, false, cond, ◌&&◌, List, [], ◌∷◌, ℕ, ◌+◌, eqb, leb, length, get_or, Result, Ok, Err}
use Rattle.std.specs.Result.{result_map_both}
use Rattle.text.specs.Text.{before, until, beyond, count}
use Rattle.numbers.specs.Number.{is_number, value_from}
use Rattle.fields.specs.declared.Fault.{Fault}
use Rattle.fields.specs.declared.Fault.TheVariants.{Shape, Form, Range as OutOfRange}
use Rattle.fields.specs.declared.Range.{Range}
use Rattle.fields.specs.declared.Numbers.{Numbers}

-- The range of a number, both ends included.
abbrev pub from_to : ℕ → ℕ → Range
from_to least most = record { least = least; most = most }

-- "from .. to ..": a number in the range.
abbrev pub in_range : Range → ℕ → Bool
in_range range n = leb range.least n && leb n range.most

-- Numbers of a line, and the rest of the line after them.
pub record Fields : Type 0 where
  pub values : List ℕ
  pub rest : List ℕ

-- What follows a line, or lines: what is made of the fault, or what comes next with what they say.
abbrev pub after : {A E X : Type 0} → Result A E → (E → X) → (A → X) → X
after (Ok a) stop go = go a
after (Err f) stop go = stop f

-- "The first field is one letter", and k fields come after it.
unfoldable pub opens : ℕ → ℕ → List ℕ → Bool
opens letter k line = cond (eqb (before 9 line) 1) (cond (eqb (get_or line 0 0) letter) (eqb (count 9 line) k) false) false

-- Numbers in the ranges, from number j on, of the rest t of a line; number j is field j + 2.
unfoldable pub numbers_from : List Range → ℕ → List ℕ → Result Fields Fault
numbers_from [] j t = Ok (record { values = []; rest = t })
numbers_from (range ∷ ranges) j t =
    let v : ℕ = value_from 0 (until 9 t) in
    cond (is_number (until 9 t))
    (cond (in_range range v)
    (after (numbers_from ranges (j + 1) (beyond 9 t)) Err (λ n. Ok (record { values = v ∷ n.values; rest = n.rest })))
    (Err (OutOfRange (j + 2))))
    (Err (Form (j + 2)))

-- A line of a letter and numbers in the ranges.
unfoldable pub fields_of : ℕ → List Range → List ℕ → Result (List ℕ) Fault
fields_of letter ranges line =
    cond (opens letter (length ranges) line) (after (numbers_from ranges 0 (beyond 9 line)) Err (λ n. Ok n.values)) (Err Shape)

-- What was read of a line.
abbrev pub numbers_in : {n : ℕ} → Result (Numbers n) Fault → Result Fields Fault
numbers_in r = result_map_both (λ n. record { values = n.values; rest = n.rest.now }) (λ f. f) r
