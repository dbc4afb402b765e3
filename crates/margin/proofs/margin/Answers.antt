-- `margin::margin` meets its contract: the difference of two numbers below 2 ^ 63 fits a 64-bit signed number.
-- Assumes nothing.
use borrow.Author.Rules.{rules}
use Rattle.margin.proofs.Signed.{margin_fits, margin_is}
use Rattle.margin.proofs.margin.Goals as goal

pub overflow_sub-result : goal.overflow_sub-result
overflow_sub-result c = search (rules, margin_fits)

pub returns : goal.returns
returns c = search (rules, margin_is)
