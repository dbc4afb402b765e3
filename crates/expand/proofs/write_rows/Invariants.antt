-- One row more with each turn of the loop: the map and the next job's rows are still as they were.
use Prim.Native.Nat.{ℕ, ◌+◌, ◌*◌, ◌-◌}
use Rattle.spans.specs.Spans.{Spans}
use Rattle.expand.specs.Laid.{laid}
use Rattle.expand.proofs.write_rows.Given as goal

abbrev pub invariant-loop-a : goal.invariant-loop-a
invariant-loop-a l = Spans l.initial.table l.table l.rows.at (l.a * l.rows.width) (λ (y : ℕ). laid l.initial.table (l.rows.at + (l.rows.count - 1) * l.rows.width) l.next l.rows.width y)
