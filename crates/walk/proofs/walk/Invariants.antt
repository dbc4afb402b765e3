-- What is written is the plan, by an invariant of the cell reached and of the levels written (`Steps`).
use Rattle.run.specs.Run.{state_of}
use Rattle.table.specs.Problem.{sheet_for}
use Rattle.walk.proofs.Steps.{Going}
use Rattle.walk.proofs.walk.Given as goal

abbrev pub invariant-loop-level : goal.invariant-loop-level
invariant-loop-level l = Going (sheet_for l.problem) (state_of l.initial.a) l.n l.level-items l.level-index (state_of l.a)
