-- `plan_lines::put_plan_line` meets its contract: its pieces, one after another, are the line.
-- Assumes nothing.
use Rattle.writer.proofs.Written.{writes_both}
use Rattle.plan_lines.specs.Lines.{plan_line}
use Rattle.plan_lines.proofs.put_plan_line.Goals as goal

pub returns-clause-wrote : goal.returns-clause-wrote
unfolding plan_line
returns-clause-wrote c = writes_both (writes_both c.byte.ensures c.field.ensures.wrote) c.put_line_end.ensures.wrote
