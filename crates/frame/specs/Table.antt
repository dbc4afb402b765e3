-- The table of 32-bit words (document 01, 'The rounded run and the table'): its size, the place of a word, what it holds.
-- Assumes nothing.
use Rattle.std.specs.Prelude.{List, [], ◌∷◌, ◌++◌, ℕ, zero, suc, ◌+◌, ◌*◌, ◌-◌, ◌/◌, ◌%◌, drop}
use Rattle.thermal.specs.Rounding.{ceil_div}
use Rattle.frame.specs.Sheet.{Sheet}
use Rattle.frame.specs.Run.{State, fresh}
use Rattle.frame.specs.Plan.{least}

-- f k, f (k + 1), ..: n numbers.
unfoldable pub tabulate : (ℕ → ℕ) → ℕ → ℕ → List ℕ
tabulate f k zero = []
tabulate f k (suc n) = f k ∷ tabulate f (suc k) n

-- "A = W/g rounded up, plus 1"
unfoldable pub energy_cells : Sheet → ℕ
energy_cells s = ceil_div s.energy_budget s.energy_step + 1

-- "B = C/h rounded up, plus 1"
unfoldable pub temperature_cells : Sheet → ℕ
temperature_cells s = ceil_div s.temperature_limit s.temperature_step + 1

-- "The need is m × l × A × B words."
unfoldable pub need : Sheet → ℕ
need s = s.jobs * s.levels * energy_cells s * temperature_cells s

-- "need above 4,194,304 words" is refused.
abbrev pub words_max : ℕ
words_max = 4194304

-- "word ((i × l + p) × A + a) × B + b"
unfoldable pub place : Sheet → ℕ → ℕ → ℕ → ℕ → ℕ
place s i p a b = ((i * s.levels + p) * energy_cells s + a) * temperature_cells s + b

-- "For i jobs done (0 to m − 1), level before p, energy a × g and temperature b × h". A top cell may lie above W or C, and some cells
-- no run reaches.
abbrev pub cell : Sheet → ℕ → ℕ → ℕ → ℕ → State
cell s i p a b = fresh i p (a * s.energy_step) (b * s.temperature_step)

-- The word "holds the least time in which the remaining jobs can be done within W and C by the rounded rule, or
-- 4,294,967,295 where no way exists".
unfoldable pub word : Sheet → ℕ → ℕ → ℕ → ℕ → ℕ
word s i p a b = least s (s.jobs - i) (cell s i p a b)

-- The jobs done of the cell at place k.
unfoldable pub done_at : Sheet → ℕ → ℕ
done_at s k = k / temperature_cells s / energy_cells s / s.levels

-- The level before of the cell at place k.
unfoldable pub level_at : Sheet → ℕ → ℕ
level_at s k = k / temperature_cells s / energy_cells s % s.levels

-- The energy cell at place k.
unfoldable pub energy_cell_at : Sheet → ℕ → ℕ
energy_cell_at s k = k / temperature_cells s % energy_cells s

-- The temperature cell at place k.
unfoldable pub temperature_cell_at : Sheet → ℕ → ℕ
temperature_cell_at s k = k % temperature_cells s

-- The word at place k.
unfoldable pub word_at : Sheet → ℕ → ℕ
word_at s k = word s (done_at s k) (level_at s k) (energy_cell_at s k) (temperature_cell_at s k)

-- A lent table once it is filled: "the need's words to the table, nothing beyond".
unfoldable pub filled : Sheet → List ℕ → List ℕ
filled s table = tabulate (word_at s) 0 (need s) ++ drop (need s) table
