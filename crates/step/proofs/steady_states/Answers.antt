-- The steady-state temperatures are the definition's, by an invariant of the levels worked out (`Store`).
use mathlib.Core.Path.{refl}
use native.Mathlib.Omega.{arith}
use Rattle.step.proofs.Store.{worked_more, worked_all}
use borrow.Author.Rules.{rules}
use Rattle.step.proofs.steady_states.Goals as goal

pub loop-j-init : goal.loop-j-init
loop-j-init c = record { long = refl; within = λ j h. absurd (omega arith) }

pub loop-j-preserved : goal.loop-j-preserved
loop-j-preserved c = worked_more _ (search rules) c.steady_state.ensures c.loop-j.invariant

pub overflow_cast-level : goal.overflow_cast-level
overflow_cast-level c = omega (arith, c.steady_state.ensures, c.requires c.loop-j.j (search rules))

pub returns : goal.returns
returns c = worked_all (search rules) c.loop-j.invariant
