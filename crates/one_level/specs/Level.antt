-- What the words of a level rest on.
-- Assumes nothing.
use Rattle.std.specs.Prelude.{List, ℕ, ◌+◌, ◌*◌, ◌≤◌, length}
use Rattle.open_ways.specs.declared.layer.Layer.{Layer}
use Rattle.open_ways.specs.Layer.{Lows}

-- A job whose words from word x on are to be worked out: they are in the table, and what follows the job stands in them.
pub record Job (table : List ℕ) (layer : Layer) (x : ℕ) : Type 0 where
  pub inside : layer.at + layer.levels * layer.cells ≤ length table
  pub lows : Lows layer x table
