-- The moves from level to level: the words of one job stand level by level, `cells` words for each of some levels before, from
-- place `at` on. A move from level p to level j is lawful for its reach of words, from the first, leads as many words on as its shift,
-- and takes its time.
-- Assumes nothing.
use Rattle.std.specs.Prelude.{cond, List, [], ℕ, zero, suc, ◌+◌, ◌*◌, ◌≤◌, ◌<◌, min, ltb, get_or}
use Rattle.store.specs.Store.{levels_max}
use Rattle.word.specs.Word.{far, job_most}
use Rattle.open_ways.specs.declared.Move.{Move}

-- Of one level's moves that to level j; behind the last, one that is lawful for no word.
abbrev pub move_to : List Move → ℕ → Move
move_to row j = get_or row j (record { shift = 0; reach = 0; time = 0 })

-- The move from level p to level j.
abbrev pub move_at : List (List Move) → ℕ → ℕ → Move
move_at moves p j = move_to (get_or moves p []) j

-- The moves' figures, and what sums and places rest on: a move leads to a word of its level.
pub record Moving (levels cells : ℕ) (moves : List (List Move)) : Type 0 where
  pub most : levels ≤ levels_max
  pub within : (p j : ℕ) → p < levels → j < levels → (move_at moves p j).reach + (move_at moves p j).shift ≤ cells
  pub short : (p j : ℕ) → p < levels → j < levels → (move_at moves p j).time ≤ job_most

-- The least time of word y for level p before, by the first k levels, from what the table says follows each.
unfoldable pub relaxed_at : List (List Move) → List ℕ → ℕ → ℕ → ℕ → ℕ → ℕ → ℕ
relaxed_at moves table cells at p zero y = far
relaxed_at moves table cells at p (suc k) y =
    let least : ℕ = relaxed_at moves table cells at p k y in
    let m : Move = move_at moves p k in
    cond (ltb y m.reach) (min least (m.time + get_or table (at + k * cells + (y + m.shift)) 0)) least
