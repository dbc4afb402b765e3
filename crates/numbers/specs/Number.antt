-- The form of a number (document 01, 'The sheet').
-- Assumes nothing.
use Rattle.std.specs.Prelude.{Bool, false, cond, List, [], ◌∷◌, ℕ, ◌+◌, ◌-◌, ◌*◌, eqb, ltb, length, get_or, Option, Some, None}
use Rattle.std.specs.Char.{is_ascii_digit}
use Rattle.std.specs.List.{take_while}
use Rattle.text.specs.Text.{until, beyond, all}

-- "no leading zero, except 0 itself": a digit 0 (byte 48) with more behind it
unfoldable pub leading_zero : List ℕ → Bool
leading_zero t = cond (ltb 1 (length t)) (eqb (get_or t 0 0) 48) false

-- "A number has 1 to 10 digits and no leading zero, except 0 itself." Digits are bytes 48 to 57.
unfoldable pub is_number : List ℕ → Bool
is_number t = cond (eqb (length t) 0) false (cond (ltb 10 (length t)) false (cond (leading_zero t) false (all 48 57 t)))

-- The value of digits t behind digits of value v, "in base ten".
unfoldable pub value_from : ℕ → List ℕ → ℕ
value_from v [] = v
value_from v (b ∷ t) = value_from (v * 10 + (b - 48)) t

-- The bytes 48 to 57 that a text starts with, which are its digits.
abbrev pub leading_digits : List ℕ → List ℕ
leading_digits t = take_while is_ascii_digit t

-- The number that a text starts with, where its digits are one ("A number has 1 to 10 digits .."), and how many digits it has.
unfoldable pub leading_number : List ℕ → Option (ℕ × ℕ)
leading_number t = let digits : List ℕ = leading_digits t in cond (is_number digits) (Some (value_from 0 digits, length digits)) None

-- The number in the next field of the rest t of a line, and what comes after that field.
unfoldable pub next_number : List ℕ → Option (ℕ × List ℕ)
next_number t = cond (is_number (until 9 t)) (Some (value_from 0 (until 9 t), beyond 9 t)) None
