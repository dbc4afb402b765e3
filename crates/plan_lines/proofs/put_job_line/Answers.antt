-- `plan_lines::put_job_line` meets its contract: its pieces, one after another, are the line.
-- Assumes nothing.
use Rattle.writer.proofs.Written.{writes_both}
use Rattle.plan_lines.specs.Lines.{job_line}
use Rattle.plan_lines.proofs.put_job_line.Goals as goal

pub returns-clause-wrote : goal.returns-clause-wrote
unfolding job_line
returns-clause-wrote c = writes_both (writes_both (writes_both c.bytes.ensures c.bytes-2.ensures) c.field.ensures.wrote) c.put_line_end.ensures.wrote
