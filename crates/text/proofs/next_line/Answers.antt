-- `next_line` gives the line that was scanned where it is shorter than the text.
use Rattle.text.proofs.Text.{line_shorter}
use Rattle.text.proofs.next_line.Goals as goal

pub returns : goal.returns
returns c = rw c.then_some.ensures (line_shorter c.scan_line-line.result c.args.t.now c.scan_line-line.ensures)
