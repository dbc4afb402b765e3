-- What the logger's call and the program `plan` stand on (document 01, 'The logger's call and `plan`'): a sheet planned with a
-- table of their own, and its text.
-- Assumes nothing.
use Rattle.std.specs.Prelude.{cond, List, ◌++◌, ℕ, ltb, length, drop, Result, Ok, Err}
use Rattle.frame.specs.Sheet.{Sheet}
use Rattle.frame.specs.Demands.{Outcome, planned, no_plan}
use Rattle.store.specs.Store.{jobs_max}
use Rattle.refusal.specs.declared.Refusal.{Refusal}
use Rattle.refusal.specs.Code.{number_of, line_of, field_of}
use Rattle.reply.specs.Answer.{Answer, refused, found}
use Rattle.demands.specs.Order.{answer_of}
use Rattle.plan_text.specs.Text.{text_least, plan_text}

-- "the table is 16,384 words inside the call"
abbrev pub table_words : ℕ
table_words = 16384

-- The planner's answer "with the table used there". The levels stand in a part inside the call with a byte for every job, so 9 is the
-- text's alone.
unfoldable pub answer_in : List ℕ → Answer
answer_in t = answer_of t table_words jobs_max

-- A refusal's number, line and field, or the length of a plan's text.
pub record Report : Type 0 where
  pub refusal : ℕ
  pub line : ℕ
  pub field : ℕ
  pub length : ℕ

-- "Every figure of a refused reply not named is 0."
abbrev pub refused_report : ℕ → ℕ → ℕ → Report
refused_report number line field = record { refusal = number; line = line; field = field; length = 0 }

-- The report by what the call hands back.
abbrev pub report_by : Result ℕ Refusal → Report
report_by (Ok n) = record { refusal = 0; line = 0; field = 0; length = n }
report_by (Err f) = refused_report (number_of f) (line_of f) (field_of f)

-- What is found, for a part that is large enough.
abbrev pub report_found : List ℕ → Sheet → Outcome → Report
report_found t s (planned js) = record { refusal = 0; line = 0; field = 0; length = length (plan_text t s js) }
report_found t s no_plan = refused_report 10 0 0

-- The report on a sheet with a part of so many bytes: the refusal, or the text's length. The part is tested after 8 and before 10.
abbrev pub report_of : List ℕ → ℕ → Answer → Report
report_of t room (refused f) = refused_report (number_of f) (line_of f) (field_of f)
report_of t room (found s n a o) = cond (ltb room text_least) (refused_report 9 0 0) (report_found t s o)

-- What is found, in the part: a plan's text at its start; "bytes beyond it stay".
abbrev pub part_found : List ℕ → Sheet → Outcome → List ℕ → List ℕ
part_found t s (planned js) part = plan_text t s js ++ drop (length (plan_text t s js)) part
part_found t s no_plan part = part

-- The part afterwards; a refusal leaves it.
abbrev pub text_after : List ℕ → Answer → List ℕ → List ℕ
text_after t (refused f) part = part
text_after t (found s n a o) part = cond (ltb (length part) text_least) part (part_found t s o part)
