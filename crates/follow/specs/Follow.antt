-- What follows a job (document 01, 'The rounded run and the table'): the word of the next job in the temperature cell after the job
-- (`next_cells`).
-- Assumes nothing.
use Rattle.std.specs.Prelude.{◌≡◌, cond, ◌⊎◌, List, ℕ, suc, ◌+◌, ◌-◌, ◌/◌, ◌%◌, ◌≤◌, ◌<◌, ltb, length, get_or}
use Rattle.frame.specs.Sheet.{Sheet}
use Rattle.frame.specs.Plan.{least}
use Rattle.frame.specs.Table.{temperature_cells, cell}
use Rattle.table.specs.Table.{cells, base}
use Rattle.word.specs.Word.{far, near}
use Rattle.next_cells.specs.Next.{next_cell}

-- The least time of the jobs after job i, which was done at level j from temperature cell b and left energy cell a.
unfoldable pub follows : Sheet → ℕ → ℕ → ℕ → ℕ → ℕ
follows s i j a b =
    cond (ltb (next_cell s i j b) (temperature_cells s)) (near (least s (s.jobs - suc i) (cell s (suc i) j a (next_cell s i j b)))) far

-- The same by word y of the level.
abbrev pub follows_at : Sheet → ℕ → ℕ → ℕ → ℕ
follows_at s i j y = follows s i j (y / temperature_cells s) (y % temperature_cells s)

-- Words from `lo` to `hi` may have changed, and no others.
pub record Kept (lo hi : ℕ) (old new : List ℕ) : Type 0 where
  pub long : length new ≡ length old
  pub outside : (q : ℕ) → (q < lo) ⊎ (hi ≤ q) → get_or new q 0 ≡ get_or old q 0

-- What follows job i at level j stands in the place of that level's words, and no other word has changed.
pub record Follows (s : Sheet) (i j : ℕ) (old new : List ℕ) : Type 0 where
  pub words : (y : ℕ) → y < cells s → get_or new (base s i j + y) 0 ≡ follows_at s i j y
  pub kept : Kept (base s i j) (base s i j + cells s) old new

-- The words of job i at the first k levels hold what follows.
pub record Ahead (s : Sheet) (i k : ℕ) (table : List ℕ) : Type 0 where
  pub words : (j y : ℕ) → j < k → y < cells s → get_or table (base s i j + y) 0 ≡ follows_at s i j y

-- What follows job i stands in the place of its words, and no other word has changed.
pub record Expanded (s : Sheet) (i : ℕ) (old new : List ℕ) : Type 0 where
  pub ahead : Ahead s i s.levels new
  pub kept : Kept (base s i 0) (base s (suc i) 0) old new
