-- The Q lines are those of the list's run, by an invariant of the lines written, the run and the next J line (`Writing`).
use Rattle.plan_text.proofs.Writing.{Writing}
use Rattle.plan_text.proofs.put_jobs.Given as goal

abbrev pub invariant-loop-level : goal.invariant-loop-level
invariant-loop-level l = Writing l.s l.fn.sheet l.levels l.initial.writer l.writer l.run l.rest l.level-index
