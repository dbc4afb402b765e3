-- What is taken in one pass over its bytes: a number, the start of a line, a sound line.
-- Assumes nothing.
use Rattle.std.specs.Prelude.{Bool, false, cond, List, [], ◌∷◌, ℕ, ◌+◌, ◌<◌, ◌^◌, eqb, leb, length, get_or, Option, Some, None, Result}
use Rattle.text.specs.Text.{before, until, ahead}
use Rattle.numbers.specs.Number.{is_number, value_from}
use Rattle.fields.specs.Fields.{after, in_range}
use Rattle.fields.specs.declared.Fault.{Fault}
use Rattle.fields.specs.declared.Range.{Range}

-- A number in the range, of at most 8 digits.
unfoldable pub is_short : Range → List ℕ → Bool
is_short range t = cond (is_number t) (cond (leb (length t) 8) (in_range range (value_from 0 t)) false) false

-- What is taken of the text t: the bytes before its first byte `stop`, where there is one and they are such a number; the number,
-- and how many digits it has.
unfoldable pub taken : ℕ → Range → List ℕ → Option (ℕ × ℕ)
taken stop range t =
    let digits : List ℕ = until stop t in
    cond (ahead stop t) (cond (is_short range digits) (Some (value_from 0 digits, length digits)) None) None

-- The text has `room` bytes, and the first of them are the letter and a byte 9.
unfoldable pub starts : ℕ → ℕ → List ℕ → Bool
starts letter room t = cond (leb room (length t)) (cond (eqb (get_or t 0 0) letter) (eqb (get_or t 1 0) 9) false) false

-- What the next line of the text t says, as `read` has it, and how many bytes the line has with its byte 10. It is taken where the
-- text has `room` bytes, a byte 10 is ahead, and the line has no fault.
unfoldable pub line_taken : {A : Type 0} → ℕ → (List ℕ → Result A Fault) → List ℕ → Option (A × ℕ)
line_taken room read t =
    cond (leb room (length t)) (cond (ahead 10 t) (after (read (until 10 t)) (λ f. None) (λ a. Some (a, before 10 t + 1))) None) None

-- Every range ends below 10 ^ 8, so that its numbers have at most 8 digits.
abbrev pub ShortRanges : List Range → Type 0
ShortRanges [] = Unit
ShortRanges (range ∷ ranges) = (range.most < 10 ^ 8) × ShortRanges ranges
