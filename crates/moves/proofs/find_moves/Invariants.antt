-- The moves of a job, level by level left.
use Prim.Native.Nat.{ℕ, ◌<◌}
use mathlib.Core.Path.{◌≡◌}
use Rattle.table.specs.Problem.{sheet_for}
use Rattle.open_ways.specs.Moves.{move_at}
use Rattle.moves.specs.Moves.{move_of}
use Rattle.moves.proofs.find_moves.Given as goal

abbrev pub invariant-loop-p : goal.invariant-loop-p
invariant-loop-p l =
    let s = sheet_for l.problem in
    (k j : ℕ) → k < l.p → j < s.levels → move_at l.row-items k j ≡ move_of s l.i k j
