-- Numbers as the bytes of their digits (document 01, 'Units' and 'The sheet'). `read_back` in `proofs/Decimal.antt` shows that
-- the sheet's reader takes them for the same numbers, of up to 10 digits.
-- Assumes nothing.
use Rattle.std.specs.Prelude.{cond, List, [], ◌∷◌, ◌++◌, ℕ, zero, suc, ◌+◌, ◌/◌, ◌%◌, ◌^◌, ltb}

-- The last k digits of n, the highest first, and no more than n has: "no leading zero, except 0 itself". Digits are bytes 48
-- to 57.
unfoldable pub digits_in : ℕ → ℕ → List ℕ
digits_in zero n = []
digits_in (suc k) n = cond (ltb n 10) ((48 + n) ∷ []) (digits_in k (n / 10) ++ ((48 + n % 10) ∷ []))

-- A number "written in base ten". A 64-bit number has at most 20 digits.
unfoldable pub decimal : ℕ → List ℕ
decimal n = digits_in 20 n

-- "fields are parted by one byte 9": a number with the byte 9 that parts it from the field before.
unfoldable pub field : ℕ → List ℕ
field n = 9 ∷ decimal n

-- "A number has 1 to 10 digits": the first number that has more.
abbrev pub number_end : ℕ
number_end = 10 ^ 10

-- The most bytes of a field: its byte 9 and 10 digits.
abbrev pub field_max : ℕ
field_max = 11
