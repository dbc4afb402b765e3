-- A column of words: what a loop over rows leaves in one cell of each.
-- Assumes nothing.
use Rattle.std.specs.Prelude.{◌≡◌, List, ℕ, ◌+◌, ◌*◌, ◌<◌, length, get_or}

-- The words of one column of n rows, the first of them at place `at`, hold f 0, f 1, ..; all others are as they were.
pub record Column (old new : List ℕ) (at n width : ℕ) (f : ℕ → ℕ) : Type 0 where
  pub long : length new ≡ length old
  pub inside : (a : ℕ) → a < n → get_or new (at + a * width) 0 ≡ f a
  pub outside : (q : ℕ) → ((a : ℕ) → a < n → q ≡ at + a * width → ⊥) → get_or new q 0 ≡ get_or old q 0
