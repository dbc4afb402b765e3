-- The table is filled, by an invariant of the jobs that are filled, from the last to the first (`Filling`).
use Rattle.table.specs.Table.{base}
use Rattle.table.specs.Problem.{sheet_for}
use Rattle.fill.specs.Layer.{FilledFrom}
use Rattle.fill.proofs.fill.Given as goal

abbrev pub invariant-loop-i : goal.invariant-loop-i
invariant-loop-i l = FilledFrom (sheet_for l.problem) (base (sheet_for l.problem) l.i 0) l.initial.table l.table
