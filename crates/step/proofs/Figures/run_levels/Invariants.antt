-- The run of a list is the definition's, by an invariant of what is run and what is left (`Levels`).
use Rattle.frame.specs.Sheet.{Sheet, Ranges}
use Rattle.step.specs.Store.{Stored}
use Rattle.step.proofs.Levels.{Going}
use Rattle.step.proofs.Figures.run_levels.Given as goal

abbrev pub invariant-loop-level : goal.invariant-loop-level
invariant-loop-level l = (s : Sheet) → Ranges s → Stored s l.self.store.now l.self.steady → Going s l.initial.run l.levels l.run l.level-index
