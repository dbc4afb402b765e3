-- The level that a table gives for the next job (demand 2: "among equals the first in level order").
-- Assumes nothing.
use Rattle.std.specs.Prelude.{List, ℕ}
use Rattle.frame.specs.Sheet.{Sheet}
use Rattle.frame.specs.Run.{State}
use Rattle.frame.specs.Plan.{least_of, first_within, via}
use Rattle.lookup.specs.Lookup.{rest_by}

-- The first level of the next job that takes the least time from a cell on, by what a table says.
abbrev pub level_by : Sheet → List ℕ → State → ℕ
level_by s table a = first_within s.levels (via s (rest_by s table) a) (least_of s.levels (via s (rest_by s table) a))
