-- Rounding up, for every place where document 01 says "rounded up" or "raised to the next multiple".
-- `proofs/Rounding.antt` shows that these are what the words say: the least whole number that is not below the quotient,
-- and the least multiple that is not below the number.
-- Assumes nothing.
use Rattle.std.specs.Prelude.{ℕ, ◌+◌, ◌*◌, ◌-◌, ◌/◌}

-- x / n, rounded up. n is at least 1 wherever document 01 divides.
unfoldable pub ceil_div : ℕ → ℕ → ℕ
ceil_div x n = (x + (n - 1)) / n

-- x raised to the next multiple of a step (document 01: grain); a multiple stays.
unfoldable pub raise : ℕ → ℕ → ℕ
raise step x = ceil_div x step * step
