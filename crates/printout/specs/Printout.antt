-- What the program `plan` prints for a sheet (document 01, 'The logger's call and `plan`').
-- Assumes nothing.
use Rattle.std.specs.Prelude.{List, ℕ}
use Rattle.frame.specs.Demands.{planned, no_plan}
use Rattle.refusal.specs.Code.{number_of, line_of, field_of}
use Rattle.reply.specs.Answer.{Answer, refused, found}
use Rattle.plan_lines.specs.Lines.{refusal_line}
use Rattle.plan_text.specs.Text.{plan_text}
use Rattle.report.specs.Report.{answer_in}

-- "a P line .. and for each job a Q line .., or one R line (refusal, line, field)"; "no plan" is 10, line 0, field 0.
abbrev pub printout_for : List ℕ → Answer → List ℕ
printout_for t (refused f) = refusal_line (number_of f) (line_of f) (field_of f)
printout_for t (found s n a (planned js)) = plan_text t s js
printout_for t (found s n a no_plan) = refusal_line 10 0 0

-- "`plan` .. uses the same table".
unfoldable pub printout : List ℕ → List ℕ
printout t = printout_for t (answer_in t)
