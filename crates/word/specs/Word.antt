-- One word of the table: the least time from a state on, and how "no way" is written while a job is worked on and once it is done.
-- `FAR` and `NO_WAY` are the code's names for `far` and `no_way`.
-- Assumes nothing.
use Rattle.std.specs.Prelude.{cond, ℕ, ◌+◌, min, ltb}
use Rattle.frame.specs.Demands.{infeasible}
-- The most words of a table, and the most time of a move, a change and a job.
pub use Rattle.frame.specs.Table.{words_max}
pub use Rattle.frame.specs.Sheet.{job_most}

-- Stands for "no way" while the words of a job are worked on: above every time of a frame, and so small that sums stay in 32 bits.
abbrev pub far : ℕ
far = 2000000000

-- "4,294,967,295 where no way exists"
abbrev pub no_way : ℕ
no_way = infeasible

-- The most that a word and the time of a move come to: still below 2 ^ 31.
abbrev pub sum_max : ℕ
sum_max = far + job_most

-- A word of the next job: its time, or `far` for 4,294,967,295 and whatever is not below `far`.
abbrev pub near : ℕ → ℕ
near w = min w far

-- A word once its job is done: 4,294,967,295 "where no way exists".
abbrev pub settled : ℕ → ℕ
settled w = cond (ltb w far) w no_way
