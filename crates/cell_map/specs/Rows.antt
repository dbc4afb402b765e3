-- What follows a job, row by row of an energy cell each: every cell of a row takes the word of the next job's row that the map names.
-- The map stands in the last row until that row is written itself.
-- Assumes nothing.
use Rattle.std.specs.Prelude.{cond, List, ℕ, ◌+◌, ◌*◌, ◌/◌, ◌%◌, ◌≤◌, ◌<◌, ltb, length, get_or}
use Rattle.word.specs.Word.{far, near}
use Rattle.cell_map.specs.declared.rows.Rows.{Rows}

-- Word y of rows of `width` cells, by the map at place `map`: the word of the cell that it names in the row of the next job, whose
-- rows begin at `next`; `far` where it names none.
unfoldable pub gathered : List ℕ → ℕ → ℕ → ℕ → ℕ → ℕ
gathered table map next width y =
    let q : ℕ = get_or table (map + y % width) 0 in
    cond (ltb q width) (near (get_or table (next + (y / width * width + q)) 0)) far

-- The same after the last job, which nothing follows.
unfoldable pub finished : List ℕ → ℕ → ℕ → ℕ → ℕ
finished table map width y = cond (ltb (get_or table (map + y % width) 0) width) 0 far

-- A cell for which the map names no cell is followed by such cells alone.
pub record Rising (table : List ℕ) (map width : ℕ) : Type 0 where
  pub stays : (b c : ℕ) → b ≤ c → c < width → width ≤ get_or table (map + b) 0 → width ≤ get_or table (map + c) 0

-- The map names a cell for the first n cells, and for no others.
pub record Leading (table : List ℕ) (map width n : ℕ) : Type 0 where
  pub most : n ≤ width
  pub within : (k : ℕ) → k < n → get_or table (map + k) 0 < width
  pub beyond : (k : ℕ) → n ≤ k → k < width → width ≤ get_or table (map + k) 0

-- The rows of the next job stand behind those that are written, and in the table.
pub record Behind (table : List ℕ) (rows : Rows) (next : ℕ) : Type 0 where
  pub behind : rows.at + rows.count * rows.width ≤ next
  pub room : next + rows.count * rows.width ≤ length table
