-- Each read that brings bytes leaves less room, so that reading ends, within the buffer.
-- Assumes nothing.
use Rattle.std.proofs.Common.{length, ◌-◌, ◌≤◌}
use Rattle.cases.proofs.read_input.Given as goal

abbrev pub invariant-loop-n : goal.invariant-loop-n
invariant-loop-n l = l.n ≤ length l.input

abbrev pub decreases-loop-n : goal.decreases-loop-n
decreases-loop-n l = length l.initial.input - l.n
