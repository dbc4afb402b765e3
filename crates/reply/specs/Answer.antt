-- The planner's answer (document 01, 'What is refused'): which refusal, or what is found, the reply that says so, and what the table
-- and the part hold afterwards.
-- Assumes nothing.
use Rattle.std.specs.Prelude.{◌≡◌, List, ◌++◌, ℕ, drop}
use Rattle.frame.specs.Sheet.{Sheet, Between}
use Rattle.frame.specs.Run.{State, exact_run}
use Rattle.frame.specs.Demands.{Outcome, planned, no_plan, figures}
use Rattle.frame.specs.Plan.{outcome}
use Rattle.frame.specs.Afresh.{jobs_left}
use Rattle.frame.specs.Table.{filled}
use Rattle.refusal.specs.declared.Refusal.{Refusal}
use Rattle.refusal.specs.Code.{number_of, line_of, field_of}
use Rattle.reply.specs.Reply.{Reply, refused_reply, planned_as}

-- A refusal of 1 to 9, 13 or 14, before the table is touched; or what is found in the filled table of a sheet for its next n jobs, from
-- a state.
pub data Answer : Type 0 where
  refused : Refusal → Answer
  found : Sheet → ℕ → State → Outcome → Answer

-- What is found for the jobs that are left from a state on.
abbrev pub found_from : Sheet → State → Answer
found_from s a = found s (jobs_left s a) a (outcome s (jobs_left s a) a)

-- The reply, but for a plan's peak figure; "no plan" is 10.
abbrev pub reply_of : Answer → ℕ → Reply
reply_of (refused f) peak = refused_reply (number_of f) (line_of f) (field_of f)
reply_of (found s n a (planned js)) peak = planned_as (figures s a js) peak
reply_of (found s n a no_plan) peak = refused_reply 10 0 0

-- A plan's peak figure is open: "at least the highest temperature at a job end of that run and at most C".
abbrev pub PeakOf : Answer → ℕ → Type 0
PeakOf (refused f) peak = Unit
PeakOf (found s n a (planned js)) peak = Between (exact_run s a js).peak s.temperature_limit peak
PeakOf (found s n a no_plan) peak = Unit

-- The table afterwards: every refusal but 10 leaves it, and for a plan and for "no plan" it is filled.
abbrev pub table_after : Answer → List ℕ → List ℕ
table_after (refused f) table = table
table_after (found s n a o) table = filled s table

-- The part afterwards: "A plan writes m level bytes to the start of the part", "nothing beyond", and planned afresh "the
-- part gets only the remaining levels"; every refusal leaves it.
abbrev pub part_after : Answer → List ℕ → List ℕ
part_after (refused f) part = part
part_after (found s n a (planned js)) part = js ++ drop n part
part_after (found s n a no_plan) part = part

-- What the call hands back and what it leaves in lent memory.
pub record Answers (a : Answer) (words words' bytes bytes' : List ℕ) (r : Reply) : Type 0 where
  pub reply : r ≡ reply_of a r.peak
  pub table : words' ≡ table_after a words
  pub part : bytes' ≡ part_after a bytes
  pub peak : PeakOf a r.peak
