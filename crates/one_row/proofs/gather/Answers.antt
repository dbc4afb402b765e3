-- One cell more with each turn of the loop: the map and the next job's row stand behind what is written, and are as they were.
use mathlib.Core.Path.{◌≡◌, ap, ◌∙◌}
use mathlib.Core.List.{List}
use Prim.Native.Nat.{ℕ, ◌+◌, ◌≤◌, ◌<◌}
use native.Mathlib.Omega.{arith}
use lib.ListN.{length, get_or}
use Rattle.spans.specs.Spans.{Spans}
use Rattle.cell_map.specs.Rows.{Leading}
use Rattle.word.specs.Word.{near}
use Rattle.spans.proofs.Stepping.{spans_more, spans_behind}
use Rattle.one_row.proofs.Parts.{part, part_at, part_set}
use Rattle.one_row.proofs.gather.Goals as goal

-- The cell that the map names for the turn's cell is the old one.
module _ {old new : List ℕ} {at map width n k : ℕ} {f : ℕ → ℕ} (s : Spans old new at k f) (b : at ≤ map) (g : Leading old map width n) (h : k < n) where
  cell_is : get_or (part new map width) k 0 ≡ get_or old (map + k) 0
  cell_is = part_at new map width k (omega (arith, g.most)) ∙ spans_behind s (map + k) (omega arith)

  cell_small : get_or (part new map width) k 0 < width
  cell_small = omega (arith, cell_is, g.within k h)

pub loop-k-preserved : goal.loop-k-preserved
loop-k-preserved c =
    let a = c in
    let l = c.loop-k in
    let h = c.loop-k-test.true in
    let lead = a.requires.leading in
    let q = get_or (part l.table a.args.map a.args.width) l.k 0 in
    let fits : a.args.at + a.args.width ≤ length l.table = omega (arith, a.requires, l.invariant.long) in
    let word =
    c.cap.ensures ∙ ap (λ (w : ℕ). near w) (part_at l.table a.args.row a.args.width q (cell_small l.invariant a.requires.map-behind lead h) ∙ spans_behind l.invariant (a.args.row + q) (omega (arith, a.requires)))
    ∙ ap (λ (y : ℕ). near (get_or a.args.table.now (a.args.row + y) 0)) (cell_is l.invariant a.requires.map-behind lead h) in
    rw (part_set l.table a.args.at a.args.width fits l.k _ (omega (arith, h, lead.most))) (spans_more l.invariant h (omega (arith, a.requires, lead.most)) _ word)
