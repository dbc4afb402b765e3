-- The steady-state temperatures are the definition's, by an invariant of the levels worked out (`Store`).
use Rattle.step.proofs.Store.{Worked}
use Rattle.step.proofs.steady_states.Given as goal

abbrev pub invariant-loop-j : goal.invariant-loop-j
invariant-loop-j l = Worked l.store l.resistance l.level-items l.j
