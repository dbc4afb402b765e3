-- The words of one job, level by level: `cells` words for each of `levels` levels before, from place `at` on.
-- Assumes nothing.
use Rattle.std.specs.Prelude.{◌≡◌, ◌⊎◌, List, ℕ, ◌+◌, ◌*◌, ◌≤◌, ◌<◌, length, get_or}

-- The words of a level that are worked on at once, at most. `PART_SIZE` is the code's name.
abbrev pub part_size : ℕ
part_size = 384

-- The n words from word x on are a level's, and no more than a part has.
pub record Part (cells x n : ℕ) : Type 0 where
  pub fits : n ≤ part_size
  pub within : x + n ≤ cells

-- The words from lo to hi of each level hold f; all other words of the table are as they were.
pub record Levels (old new : List ℕ) (at levels cells lo hi : ℕ) (f : ℕ → ℕ → ℕ) : Type 0 where
  pub long : length new ≡ length old
  pub inside : (p y : ℕ) → p < levels → lo ≤ y → y < hi → get_or new (at + p * cells + y) 0 ≡ f p y
  pub level : (p y : ℕ) → p < levels → y < cells → (y < lo) ⊎ (hi ≤ y) → get_or new (at + p * cells + y) 0 ≡ get_or old (at + p * cells + y) 0
  pub outside : (q : ℕ) → (q < at) ⊎ (at + levels * cells ≤ q) → get_or new q 0 ≡ get_or old q 0
