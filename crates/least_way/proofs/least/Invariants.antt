-- One place more with each turn of the loop.
use Rattle.least_way.specs.Least.{least_in, TimeOf}
use Rattle.least_way.proofs.least.Given as goal

abbrev pub invariant-loop-k : goal.invariant-loop-k
invariant-loop-k g l = TimeOf (least_in l.table l.ways l.k l.q) l.best
