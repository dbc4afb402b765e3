-- `plan_lines::put_line_end` meets its contract: its pieces, one after another, are the line's end.
-- Assumes nothing.
use Rattle.writer.proofs.Written.{writes_both}
use Rattle.plan_lines.specs.Lines.{line_end}
use Rattle.plan_lines.proofs.put_line_end.Goals as goal

pub returns-clause-wrote : goal.returns-clause-wrote
unfolding line_end
returns-clause-wrote c = writes_both (writes_both (writes_both c.field.ensures.wrote c.field-2.ensures.wrote) c.field-3.ensures.wrote) c.byte.ensures
