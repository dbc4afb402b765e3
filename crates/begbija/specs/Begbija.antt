-- The numbers of the calls that the logger's firmware links (document 01, 'The logger's call and `plan`'), and the demands in words
-- on the call that writes plan text.
-- Assumes nothing.
use Rattle.std.specs.Prelude.{◌↔◌, ◌⊎◌, ◌≡◌, List, ℕ, ◌≤◌, ◌<◌, ℤ, pos, take, Result}
use Rattle.store.specs.Store.{jobs_max}
use Rattle.sheet.specs.Reading.{sheet_in}
use Rattle.refusal.specs.declared.Refusal.{Refusal}
use Rattle.reply.specs.Reply.{Reply}
use Rattle.demands.specs.Demands.{plan_in, Demands}
use Rattle.plan_text.specs.Text.{text_least, plan_text}
use Rattle.report.specs.Report.{Report, table_words}
use Rattle.c_values.specs.Values.{minus, count_or_refusal, number_by}

-- The number of the call that writes plan text.
abbrev pub text_number : Report → ℤ
text_number r = count_or_refusal r.refusal r.length

-- The number of the call that tells the need.
abbrev pub need_number : Result ℕ Refusal → ℤ
need_number n = number_by n

-- "A plan or "no plan" from the logger's call or `plan` is the planner's with the table used there": the demands in words hold of
-- a reply and of levels in a part with a byte for every job. The call's number and text tell them. Only where the part for the text
-- is "under 4,096" is 9 told instead of a plan or of "no plan".
pub record TextDemands (t : List ℕ) (room : ℕ) (text : List ℕ) (q : ℤ) : Type 0 where
  pub reply : Reply
  pub levels : List ℕ
  pub demands : Demands t table_words jobs_max levels reply
  pub plan : (n : ℕ) → q ≡ pos n → let s = sheet_in t in (reply.refusal ≡ 0) × (take n text ≡ plan_text t s (plan_in s levels))
  pub refused : (k : ℕ) → 1 ≤ k → ¬ (k ≡ 9) → q ≡ minus k → reply.refusal ≡ k
  pub narrow : (q ≡ minus 9) ↔ ((room < text_least) × ((reply.refusal ≡ 0) ⊎ (reply.refusal ≡ 10)))
