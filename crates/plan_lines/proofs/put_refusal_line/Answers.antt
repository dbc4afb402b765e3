-- `plan_lines::put_refusal_line` meets its contract: its pieces, one after another, are the line.
-- Assumes nothing.
use Rattle.writer.proofs.Written.{writes_both}
use Rattle.plan_lines.specs.Lines.{refusal_line}
use Rattle.plan_lines.proofs.put_refusal_line.Goals as goal

pub returns-clause-wrote : goal.returns-clause-wrote
unfolding refusal_line
returns-clause-wrote c = writes_both c.byte.ensures c.put_line_end.ensures.wrote
