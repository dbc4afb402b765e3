-- Planning the jobs that are left, from the sheet's start or from what was read after a job.
-- Assumes nothing.
use Rattle.std.specs.Prelude.{◌≡◌, List, ℕ, ◌≤◌, Option, Some, None}
use Rattle.frame.specs.Sheet.{Sheet}
use Rattle.frame.specs.Run.{State}
use Rattle.frame.specs.Demands.{Outcome, planned, no_plan}
use Rattle.frame.specs.Plan.{outcome}
use Rattle.frame.specs.Afresh.{Readable, jobs_left}
use Rattle.frame.specs.Table.{need}
use Rattle.refusal.specs.declared.Refusal.{Refusal}
use Rattle.refusal.specs.declared.Refusal.TheVariants.{NoPlan}
use Rattle.reply.specs.Answer.{found, table_after, part_after}

-- What planning from a state rests on: a job is left, and nothing is out of range or above the temperature limit; the table has the
-- need's words, the part a byte for each job that is left. Time and energy may be past their limits: there is no plan then.
pub record Ready (s : Sheet) (a : State) (words bytes : ℕ) : Type 0 where
  pub readable : Readable s a
  pub peak : a.peak ≤ s.temperature_limit
  pub table : need s ≤ words
  pub part : jobs_left s a ≤ bytes

-- The refusal of an outcome that is no plan: "no plan | 10".
abbrev pub refusal_in : Outcome → Option Refusal
refusal_in (planned js) = None
refusal_in no_plan = Some NoPlan

-- What looking for a plan for the next n jobs from a state leaves in lent memory, with the refusal that it hands back, or none.
pub record Finds (s : Sheet) (n : ℕ) (a : State) (words words' bytes bytes' : List ℕ) (r : Option Refusal) : Type 0 where
  pub plan : r ≡ refusal_in (outcome s n a)
  pub table : words' ≡ table_after (found s n a (outcome s n a)) words
  pub part : bytes' ≡ part_after (found s n a (outcome s n a)) bytes
