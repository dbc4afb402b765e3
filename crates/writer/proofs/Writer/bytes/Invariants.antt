-- The first bytes of s are written.
-- Assumes nothing.
use lib.ListN.{take}
use Rattle.writer.specs.Written.{Writes}
use Rattle.writer.proofs.Writer.bytes.Given as goal

abbrev pub invariant-loop-b : goal.invariant-loop-b
invariant-loop-b l = Writes l.initial.self l.self (take l.b-index l.s)
