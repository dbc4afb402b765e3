-- One row more with each turn of the loop: the map and the next job's rows are still as they were.
use native.Mathlib.Omega.{arith}
use Rattle.std.proofs.Common.{rules}
use Rattle.cell_map.proofs.Cells.{row_room}
use Rattle.expand.proofs.Taking.{leading_words, laid_more}
use Rattle.expand.proofs.write_rows.Goals as goal

pub lead_row-requires : goal.lead_row-requires
lead_row-requires c =
    let leading = leading_words c.last_row-last.ensures (omega (arith, c.requires.room, c.last_row-last.ensures, row_room 0 c.args.rows.count c.args.rows.width c.args.rows.rows_some)) c.count_leading-n.ensures in
    search (rules, leading)

pub loop-a-preserved : goal.loop-a-preserved
loop-a-preserved c =
    let a = c.args in
    let l = c.loop-a in
    let leading = leading_words c.last_row-last.ensures (omega (arith, c.requires.room, c.last_row-last.ensures, row_room 0 a.rows.count a.rows.width a.rows.rows_some)) c.count_leading-n.ensures in
    laid_more _ a.rows _ l.a c.loop-a-test.true leading a.next c.requires.next-behind l.invariant c.lead_row.ensures c.set.ensures
