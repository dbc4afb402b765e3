-- `take_numbers` takes what the definition says: what is taken stands in front of the numbers that are left.
use Rattle.fast_lines.proofs.Numbers.{Taking}
use Rattle.fast_lines.proofs.take_numbers.Given as goal

abbrev pub invariant-loop-j : goal.invariant-loop-j
invariant-loop-j g l = Taking l.fn.letter l.fn.ranges l.fn.t l.values l.at l.j
