-- What is written after a job, by the place of the next job's rows, if a job follows.
-- Assumes nothing.
use Rattle.std.specs.Prelude.{Option, Some, None, List, ℕ, ◌+◌, get_or}
use Rattle.word.specs.Word.{near}
use Rattle.cell_map.specs.Rows.{gathered, finished}

-- Word k of the row that begins y words behind the first, where the map names a cell.
abbrev pub lead : List ℕ → ℕ → Option ℕ → ℕ → ℕ → ℕ
lead table map (Some next) y k = near (get_or table (next + y + get_or table (map + k) 0) 0)
lead table map None y k = 0

-- Word y of the rows.
abbrev pub laid : List ℕ → ℕ → Option ℕ → ℕ → ℕ → ℕ
laid table map (Some next) width y = gathered table map next width y
laid table map None width y = finished table map width y
