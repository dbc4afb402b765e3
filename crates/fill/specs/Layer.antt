-- The words of one job, from those of the next (document 01, 'The rounded run and the table'): by a job's moves in energy (`moves`) and by
-- what follows it (`follow`), one level entered more at a time.
-- Assumes nothing.
use Rattle.std.specs.Prelude.{◌≡◌, List, ℕ, suc, ◌-◌, ◌/◌, ◌%◌, ◌≤◌, ◌<◌, length, get_or}
use Rattle.frame.specs.Sheet.{Sheet}
use Rattle.frame.specs.Plan.{least_of, via, least}
use Rattle.frame.specs.Table.{temperature_cells, need, cell, word_at}
use Rattle.word.specs.Word.{near}

-- Of the ways by the first k levels from a cell, the least time.
unfoldable pub up_to : Sheet → ℕ → ℕ → ℕ → ℕ → ℕ → ℕ
up_to s i p k a b = near (least_of k (via s (least s (s.jobs - suc i)) (cell s i p a b)))

-- The same for word y of the level.
abbrev pub up_to_at : Sheet → ℕ → ℕ → ℕ → ℕ → ℕ
up_to_at s i p k y = up_to s i p k (y / temperature_cells s) (y % temperature_cells s)

-- The table is filled from place k on, and its other words are as they were: "the need's words to the table, nothing beyond".
pub record FilledFrom (s : Sheet) (k : ℕ) (old new : List ℕ) : Type 0 where
  pub most : k ≤ need s
  pub long : length new ≡ length old
  pub within : (q : ℕ) → k ≤ q → q < need s → get_or new q 0 ≡ word_at s q
  pub beyond : (q : ℕ) → need s ≤ q → get_or new q 0 ≡ get_or old q 0
  pub ahead : (q : ℕ) → q < k → get_or new q 0 ≡ get_or old q 0
