-- One cell more with each turn of the loop: the map and the next job's row stand behind what is written, and are as they were.
use Prim.Native.Nat.{ℕ, ◌+◌}
use lib.ListN.{get_or}
use Rattle.word.specs.Word.{near}
use Rattle.spans.specs.Spans.{Spans}
use Rattle.one_row.proofs.gather.Given as goal

abbrev pub invariant-loop-k : goal.invariant-loop-k
invariant-loop-k l = Spans l.initial.table l.table l.at l.k (λ (i : ℕ). near (get_or l.initial.table (l.row + get_or l.initial.table (l.map + i) 0) 0))
