-- The least time of a word by the ways that are open to it.
-- Assumes nothing.
use Rattle.std.specs.Prelude.{◌≡◌, List, ℕ, zero, suc, ◌≤◌, min, length}
use Rattle.word.specs.Word.{far, sum_max}
use Rattle.one_way.specs.declared.Way.{Way}
use Rattle.one_way.specs.Way.{by_way, slot_of}

-- The least time of word q by the first k ways.
unfoldable pub least_by : List ℕ → List Way → ℕ → ℕ → ℕ
least_by table ways zero q = far
least_by table ways (suc k) q = min (least_by table ways k q) (by_way table ways k q)

-- The least time of word q by the ways in the first n places: there may be fewer ways, and the first way stands in the places beyond.
unfoldable pub least_in : List ℕ → List Way → ℕ → ℕ → ℕ
least_in table ways zero q = far
least_in table ways (suc n) q = min (least_in table ways n q) (by_way table ways (slot_of (length ways) n) q)

-- The number r stands for a least time: it is that time, or not below `far` where the time is `far`.
pub record TimeOf (least r : ℕ) : Type 0 where
  pub is : min far r ≡ least
  pub small : r ≤ sum_max
