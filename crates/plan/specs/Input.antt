-- What reading standard input leaves in a buffer. Which bytes the system hands over no contract can say.
-- Assumes nothing.
use Rattle.std.specs.Prelude.{◌≡◌, List, ℕ, ◌+◌, ◌≤◌, length, take, Ok, Err}
use Rattle.std.specs.declared.result.Result.{Result}

-- The bytes that came stand within a buffer, from place n on; or reading failed.
abbrev pub Within : {E : Type 0} → ℕ → Result ℕ E → List ℕ → Type 0
Within n (Ok count) buffer = n + count ≤ length buffer
Within n (Err e) buffer = Unit {0}

-- One read to place n of a buffer: what came before it stays, and what came ends within the buffer.
pub record More {E : Type 0} (old new : List ℕ) (n : ℕ) (r : Result ℕ E) : Type 0 where
  pub kept : take n new ≡ take n old
  pub within : Within n r new
