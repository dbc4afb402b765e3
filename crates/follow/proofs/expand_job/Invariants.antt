-- What is laid follows the job at every level, by an invariant over the levels laid (`Keeping`).
use Prim.Native.Nat.{suc}
use Rattle.table.specs.Table.{base}
use Rattle.table.specs.Problem.{sheet_for}
use Rattle.follow.specs.Follow.{Kept, Ahead}
use Rattle.follow.proofs.expand_job.Given as goal

abbrev pub invariant-loop-j : goal.invariant-loop-j
invariant-loop-j l = let s = sheet_for l.problem in record { ahead : Ahead s l.i l.j l.table; kept : Kept (base s l.i 0) (base s (suc l.i) 0) l.initial.table l.table }
