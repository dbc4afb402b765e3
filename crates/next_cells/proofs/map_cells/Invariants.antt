-- Each temperature cell has the cell after the job, by an invariant over the cells written.
use Rattle.spans.specs.Spans.{Spans}
use Rattle.table.specs.Problem.{sheet_for}
use Rattle.next_cells.specs.Next.{next_cell}
use Rattle.next_cells.proofs.map_cells.Given as goal

abbrev pub invariant-loop-b : goal.invariant-loop-b
invariant-loop-b l = Spans l.initial.row l.row 0 l.b (next_cell (sheet_for l.problem) l.i l.j)
