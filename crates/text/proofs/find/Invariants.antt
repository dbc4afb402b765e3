-- `find` stops at the first byte b: each eight bytes that it passes have none.
use lib.ListN.{length}
use Rattle.text.proofs.Text.{Passed}
use Rattle.text.proofs.find.Given as goal

abbrev pub invariant-loop-eight : goal.invariant-loop-eight
invariant-loop-eight l = Passed l.b l.t l.rest

abbrev pub decreases-loop-eight : goal.decreases-loop-eight
decreases-loop-eight l = length l.rest
