-- `Writer::number` writes a digit, or the digits of the tenth and one more.
-- Assumes nothing.
use mathlib.Core.Path.{ap}
use native.Mathlib.Omega.{arith}
use lib.ListN.{length}
use Rattle.writer.proofs.Written.{moved, writes_both}
use Rattle.writer.proofs.Decimal.{decimal_one, decimal_more, decimal_longer}
use Rattle.writer.proofs.Writer.+number.Goals as goal

pub byte-requires : goal.byte-requires
byte-requires t c = omega (arith, c.requires, ap length (decimal_one c.args.n c.if-n-lt10.true))

pub number-requires : goal.number-requires
number-requires t c = (omega arith, omega (arith, c.requires, decimal_longer c.args.n c.if-n-lt10.false c.ranges.n.fits))

pub byte-requires-else-n-lt10 : goal.byte-requires-else-n-lt10
byte-requires-else-n-lt10 t c = omega (arith, c.requires, decimal_longer c.args.n c.if-n-lt10.false c.ranges.n.fits, moved c.number.ensures)

pub returns-then-n-lt10 : goal.returns-then-n-lt10
returns-then-n-lt10 t c = rw (decimal_one c.args.n c.if-n-lt10.true) c.byte.ensures

pub returns-else-n-lt10 : goal.returns-else-n-lt10
returns-else-n-lt10 t c = rw (decimal_more c.args.n c.if-n-lt10.false c.ranges.n.fits) (writes_both c.number.ensures c.byte-else-n-lt10.ensures)
