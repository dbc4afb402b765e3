-- `read_numbers` gives what the definition says: what is read stands in front of the numbers that are left.
use Rattle.fields.proofs.Fields.{Reading}
use Rattle.fields.proofs.read_numbers.Given as goal

abbrev pub invariant-loop-j : goal.invariant-loop-j
invariant-loop-j g l = Reading l.fn.ranges l.fn.first l.fn.t l.values l.rest l.j
