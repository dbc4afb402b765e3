-- The ways that are open to a span of n words: a way leads word q of the span to word `from + q` of a table, and takes `time`.
-- Assumes nothing.
use Rattle.std.specs.Prelude.{cond, List, ℕ, ◌+◌, ◌≤◌, ◌<◌, ltb, length, get_or}
use Rattle.store.specs.Store.{levels_max}
use Rattle.word.specs.Word.{far, job_most}
use Rattle.one_way.specs.declared.Way.{Way}

-- Way k of the ways.
abbrev pub way_at : List Way → ℕ → Way
way_at ways k = get_or ways k (record { from = 0; time = 0 })

-- The time of word q by way k.
unfoldable pub by_way : List ℕ → List Way → ℕ → ℕ → ℕ
by_way table ways k q = (way_at ways k).time + get_or table ((way_at ways k).from + q) 0

-- The way in place k of a group, where `count` ways are open: way k, or the first way again.
unfoldable pub slot_of : ℕ → ℕ → ℕ
slot_of count k = cond (ltb k count) k 0

-- The ways, at most one to each level, lead to words of the table, none above `far`, and their times are those of moves.
pub record Leads (table : List ℕ) (n : ℕ) (ways : List Way) : Type 0 where
  pub few : length ways ≤ levels_max
  pub room : (k : ℕ) → k < length ways → (way_at ways k).from + n ≤ length table
  pub low : (k q : ℕ) → k < length ways → q < n → get_or table ((way_at ways k).from + q) 0 ≤ far
  pub short : (k : ℕ) → k < length ways → (way_at ways k).time ≤ job_most

-- The same of at least one way.
pub record Opened (table : List ℕ) (n : ℕ) (ways : List Way) : Type 0 where
  pub leads : Leads table n ways
  pub some : 1 ≤ length ways
