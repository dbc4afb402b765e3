-- Bytes written into a part that is lent (document 01, 'The logger's call and `plan`'): "bytes beyond it stay".
-- Assumes nothing.
use Rattle.std.specs.Prelude.{◌≡◌, List, ◌++◌, ℕ, ◌+◌, ◌≤◌, length, take, drop}
use Rattle.writer.specs.declared.Writer.{Writer}

-- The part `new` is `old` with the bytes xs in it from place `from` on, all others as they were; `next` is the place after xs.
pub record Wrote (old : List ℕ) (from : ℕ) (xs new : List ℕ) (next : ℕ) : Type 0 where
  pub room : from + length xs ≤ length old
  pub bytes : new ≡ take from old ++ xs ++ drop (from + length xs) old
  pub place : next ≡ from + length xs

-- A writer's part has room for n bytes more.
abbrev pub Room : Writer → ℕ → Type 0
Room w n = w.at + n ≤ length w.part.now

-- The writer `new` is `old` after the bytes xs, and still has the part that it was lent.
pub record Writes (old new : Writer) (xs : List ℕ) : Type 0 where
  pub same_part : new.part.ghost_name ≡ old.part.ghost_name
  pub wrote : Wrote old.part.now old.at xs new.part.now new.at
