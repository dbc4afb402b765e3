-- The need of a frame: each product fits, by `need_small`.
use native.Mathlib.Omega.{arith}
use Rattle.need.proofs.Axes.{need_small, need_is}
use Rattle.need.proofs.need_of.Goals as goal

pub overflow_mul-result : goal.overflow_mul-result
overflow_mul-result c = omega (arith, (need_small c.args.f).0)

pub overflow_mul-result-2 : goal.overflow_mul-result-2
overflow_mul-result-2 c = omega (arith, (need_small c.args.f).1)

pub overflow_mul-result-3 : goal.overflow_mul-result-3
overflow_mul-result-3 c = omega (arith, (need_small c.args.f).2)

pub returns : goal.returns
returns c = need_is c.args.f
