-- Each case is taken off the input, so that it ends; nothing is promised of what is printed.
-- Assumes nothing.
use Rattle.std.proofs.Common.{length}
use Rattle.cases.proofs.main.Given as goal

abbrev pub decreases-loop-case : goal.decreases-loop-case
decreases-loop-case l = length l.rest
