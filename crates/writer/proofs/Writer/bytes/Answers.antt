-- `Writer::bytes` writes one byte after another.
-- Assumes nothing.
use mathlib.Core.Path.{refl}
use native.Mathlib.Omega.{arith}
use Rattle.writer.proofs.Written.{wrote_none, written_room, written_more, written_all}
use Rattle.writer.proofs.Writer.bytes.Goals as goal

pub loop-b-init : goal.loop-b-init
loop-b-init c = record { same_part = refl; wrote = wrote_none _ _ (omega (arith, c.requires)) }

pub byte-requires : goal.byte-requires
byte-requires c = written_room c.args.s.now c.loop-b.b-index c.loop-b.invariant c.loop-b-test.true c.requires

pub loop-b-preserved : goal.loop-b-preserved
loop-b-preserved c = written_more c.args.s.now c.loop-b.b-index c.loop-b.invariant c.loop-b-test.true c.byte.ensures

pub returns : goal.returns
returns c = written_all c.args.s.now c.loop-b.b-index c.loop-b.invariant c.loop-b-test.false
