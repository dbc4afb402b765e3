-- The moves from one level, one by one.
use Prim.Native.Nat.{ℕ, ◌<◌}
use mathlib.Core.Path.{◌≡◌}
use Rattle.table.specs.Problem.{sheet_for}
use Rattle.open_ways.specs.Moves.{move_to}
use Rattle.moves.specs.Moves.{move_of}
use Rattle.moves.proofs.find_moves_from.Given as goal

abbrev pub invariant-loop-j : goal.invariant-loop-j
invariant-loop-j l = (k : ℕ) → k < l.j → move_to l.m-items k ≡ move_of (sheet_for l.problem) l.i l.p k
