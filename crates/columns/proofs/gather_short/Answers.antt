-- One column more with each turn of the loop: its cell of the map and the next job's rows are still as they were.
use mathlib.Core.Path.{ap}
use Prim.Native.Nat.{ℕ, ◌+◌}
use lib.ListN.{get_or}
use Rattle.columns.proofs.Columns.{columns_none, columns_all, gathered_column}
use Rattle.columns.proofs.gather_short.Goals as goal

pub loop-b-init : goal.loop-b-init
loop-b-init c = columns_none _ _ _ _ _

pub loop-b-preserved : goal.loop-b-preserved
loop-b-preserved c =
    let r = c.args.rows in
    let l = c.loop-b in
    gathered_column _ _ r.count _ _ l.b r.rows_some c.loop-b-test.true c.requires.behind _ (ap (λ (m : ℕ). get_or l.table (m + l.b) 0) c.last_row-map.ensures) l.invariant c.lay_column.ensures

pub returns : goal.returns
returns c = let l = c.loop-b in columns_all l.invariant c.args.rows.width_some l.auto.b-end c.loop-b-test.false
