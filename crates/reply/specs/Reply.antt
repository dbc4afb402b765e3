-- The planner's reply (document 01, 'What is refused'): a refusal's number, line and field, or the figures of a plan.
-- Assumes nothing.
use Rattle.std.specs.Prelude.{ℕ, Result, Ok, Err}
use Rattle.frame.specs.Demands.{Figures}
use Rattle.run.specs.declared.Run.{Run}
use Rattle.refusal.specs.declared.Refusal.{Refusal}
use Rattle.refusal.specs.Code.{number_of, line_of, field_of}
use Rattle.reply.specs.declared.Totals.{Totals}

pub record Reply : Type 0 where
  pub refusal : ℕ
  pub line : ℕ
  pub field : ℕ
  pub time : ℕ
  pub energy : ℕ
  pub temperature : ℕ
  pub peak : ℕ

-- "Every figure of a refused reply not named is 0."
abbrev pub refused_reply : ℕ → ℕ → ℕ → Reply
refused_reply number line field = record { refusal = number; line = line; field = field; time = 0; energy = 0; temperature = 0; peak = 0 }

-- A plan's reply "holds refusal 0, line 0, field 0, total time, energy and final temperature of the run without grains, and a
-- peak figure".
abbrev pub planned_as : Figures → ℕ → Reply
planned_as k peak = record { refusal = 0; line = 0; field = 0; time = k.time; energy = k.energy; temperature = k.temperature; peak = peak }

-- The figures of a plan by the run of its levels.
abbrev pub totals_of : Run → Totals
totals_of a = record { time = a.time; energy = a.energy; temperature = a.temperature; peak = a.peak }

-- The reply by what a planning call hands back.
abbrev pub reply_by : Result Totals Refusal → Reply
reply_by (Ok t) = planned_as (record { time = t.time; energy = t.energy; temperature = t.temperature }) t.peak
reply_by (Err f) = refused_reply (number_of f) (line_of f) (field_of f)
