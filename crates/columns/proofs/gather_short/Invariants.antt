-- One column more with each turn of the loop: its cell of the map and the next job's rows are still as they were.
use Prim.Native.Nat.{◌+◌, ◌*◌, ◌-◌}
use Rattle.cell_map.specs.Rows.{gathered}
use Rattle.columns.proofs.Columns.{Columns}
use Rattle.columns.proofs.gather_short.Given as goal

abbrev pub invariant-loop-b : goal.invariant-loop-b
invariant-loop-b l = Columns l.initial.table l.table l.rows.at l.rows.count l.rows.width l.b (gathered l.initial.table (l.rows.at + (l.rows.count - 1) * l.rows.width) l.next l.rows.width)
