-- `Writer::field` meets its contract.
-- Assumes nothing.
use native.Mathlib.Omega.{arith}
use Rattle.writer.specs.Decimal.{field}
use Rattle.writer.proofs.Written.{writes_both, moved}
use Rattle.writer.proofs.Decimal.{decimal_most}
use Rattle.writer.proofs.Writer.field.Goals as goal

pub number-requires : goal.number-requires
number-requires c = omega (arith, moved c.byte.ensures, decimal_most c.args.n c.requires.short)

pub returns-clause-wrote : goal.returns-clause-wrote
unfolding field
returns-clause-wrote c = writes_both c.byte.ensures c.number.ensures

pub returns-clause-upper_bound : goal.returns-clause-upper_bound
returns-clause-upper_bound c = omega (arith, moved c.byte.ensures, moved c.number.ensures, decimal_most c.args.n c.requires.short)
