-- The words of one job as the code has them, a layer: what they come to, and the ways that its moves open to a span of them.
-- Assumes nothing.
use Rattle.std.specs.Prelude.{◌≡◌, List, ℕ, ◌+◌, ◌*◌, ◌-◌, ◌≤◌, ◌<◌, length, get_or}
use Rattle.word.specs.Word.{far, job_most}
use Rattle.one_way.specs.declared.Way.{Way}
use Rattle.one_way.specs.Way.{way_at}
use Rattle.least_way.specs.Least.{least_by}
use Rattle.open_ways.specs.declared.layer.Layer.{Layer}
use Rattle.open_ways.specs.Moves.{relaxed_at}

-- The least time of word y of a layer for level p before, by the first k levels.
abbrev pub relaxed_by : Layer → List ℕ → ℕ → ℕ → ℕ → ℕ
relaxed_by layer table p k y = relaxed_at layer.moves.now table layer.cells layer.at p k y

-- The same by all levels.
abbrev pub relaxed : Layer → List ℕ → ℕ → ℕ → ℕ
relaxed layer table p y = relaxed_by layer table p layer.levels y

-- None of the words from word x on of each level is above `far`.
pub record Lows (layer : Layer) (x : ℕ) (table : List ℕ) : Type 0 where
  pub low : (j y : ℕ) → j < layer.levels → x ≤ y → y < layer.cells → get_or table (layer.at + j * layer.cells + y) 0 ≤ far

-- The ways to the first k levels that are open to the words from y to `to`, all of them, for level p before: where they lead, what
-- they take, and that no other way is open.
pub record Open (layer : Layer) (p k y end to : ℕ) (ways : List Way) : Type 0 where
  pub some : y < to
  pub within : to ≤ end
  pub few : length ways ≤ k
  pub room : (w : ℕ) → w < length ways → (way_at ways w).from + (to - y) ≤ layer.at + layer.levels * layer.cells
  pub low : (t : List ℕ) → Lows layer y t → (w q : ℕ) → w < length ways → q < to - y → get_or t ((way_at ways w).from + q) 0 ≤ far
  pub short : (w : ℕ) → w < length ways → (way_at ways w).time ≤ job_most
  pub exact : (t : List ℕ) (q : ℕ) → q < to - y → least_by t ways (length ways) q ≡ relaxed_by layer t p k (y + q)
