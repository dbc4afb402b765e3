-- Spans of words: what a loop over n words that stand one after the other leaves in them.
-- Assumes nothing.
use Rattle.std.specs.Prelude.{◌≡◌, ◌⊎◌, List, ℕ, ◌+◌, ◌≤◌, ◌<◌, length, get_or}

-- The n words from place `at` on hold f 0, f 1, ..; all others are as they were.
pub record Spans (old new : List ℕ) (at n : ℕ) (f : ℕ → ℕ) : Type 0 where
  pub long : length new ≡ length old
  pub inside : (k : ℕ) → k < n → get_or new (at + k) 0 ≡ f k
  pub outside : (q : ℕ) → (q < at) ⊎ (at + n ≤ q) → get_or new q 0 ≡ get_or old q 0
