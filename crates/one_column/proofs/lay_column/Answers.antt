-- One word more with each turn of the loop: the next job's column stands behind what is written, and is as it was.
use mathlib.Core.Path.{◌≡◌, ap, ◌∙◌}
use Prim.Native.Nat.{ℕ, ◌+◌, ◌*◌, ◌<◌}
use native.Mathlib.Omega.{arith}
use borrow.Author.Tests.{lt-ltb, le-ltb}
use lib.ListN.{length, get_or}
use Rattle.word.specs.Word.{near}
use Rattle.cell_map.proofs.Cells.{row_room}
use Rattle.one_column.proofs.Stacking.{column_next, column_behind, column_all, place_next}
use Rattle.one_column.proofs.lay_column.Goals as goal
use Rattle.one_column.proofs.lay_column.Goals.{then-q-rows, else-q-rows}

pub loop-a-preserved : goal.loop-a-preserved
loop-a-preserved c =
    let a = c.args in
    let l = c.loop-a in
    let r = a.rows in
    let u = l.invariant.column in
    let fits : r.at + a.b + l.k < length l.table = omega (arith, c.requires, l.invariant.place, row_room l._a r.count r.width c.loop-a-test.true, u.long) in
    let was : get_or l.table (a.next + a.q + l.k) 0 ≡ get_or a.table.now (a.next + a.q + l._a * r.width) 0 =
    column_behind u r.count (a.next + a.q + l.k) (omega (arith, l.auto._a-end)) (omega (arith, c.requires)) ∙ ap (λ (p : ℕ). get_or a.table.now (a.next + a.q + p) 0) l.invariant.place in
    record {
      place = place_next l._a r.width l.invariant.place;
      column =
          column_next u l.invariant.place r.width_some fits _
          (elim c.if-q-rows.branch [
            | then-q-rows w ↦ rw (lt-ltb _ _ w.if-q-rows.true) (w.table-is ∙ w.cap.ensures ∙ ap (λ (v : ℕ). near v) was)
            | else-q-rows w ↦ rw (le-ltb _ _ w.if-q-rows.false) w.table-is
          ]);
    }

pub returns : goal.returns
returns c = let l = c.loop-a in column_all l.invariant.column l.auto._a-end c.loop-a-test.false
