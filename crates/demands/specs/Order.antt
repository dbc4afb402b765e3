-- The planner's answer to any bytes, with any table and any part lent: of a frame (document 01, 'What is refused'), "Number 1 is tested
-- first. .. Then 6, 7, 8, 9, 10", and of a frame planned afresh after a job (document 02, W1), "New, after 9: 13 .. 14 .. then that 5,
-- then 10".
-- Assumes nothing.
use Rattle.std.specs.Prelude.{List, ℕ, Option, Result, Ok, Err}
use Rattle.frame.specs.Sheet.{Sheet}
use Rattle.frame.specs.Run.{State, start}
use Rattle.frame.specs.Plan.{frame_outcome}
use Rattle.frame.specs.Afresh.{jobs_left}
use Rattle.frame.specs.Table.{need}
use Rattle.store.specs.Figures.{sheet_of}
use Rattle.store.specs.Sheet.{sheet_read}
use Rattle.store.specs.declared.sheet.ReadSheet.{ReadSheet}
use Rattle.refusal.specs.declared.Refusal.{Refusal}
use Rattle.refusal.specs.Code.{accepted}
use Rattle.sheet.specs.Reading.{SheetRead, reading_of}
use Rattle.checks.specs.Checks.{lack_of, fault_of}
use Rattle.reply.specs.Answer.{Answer, refused, found, found_from}

-- What is found for the sheet's own frame: all its jobs, from its start.
abbrev pub frame_found : Sheet → Answer
frame_found s = found s s.jobs (start s) (frame_outcome s)

-- A check's refusal, and where there is none, what comes after it.
abbrev pub unless : Option Refusal → Answer → Answer
unless o after = accepted o refused after

-- The answer for a sheet's own frame: 7, 8, 9, and what is found.
unfoldable pub answer_for : Sheet → ℕ → ℕ → Answer
answer_for s words bytes = unless (lack_of (need s) s.jobs words bytes) (frame_found s)

-- The answer for the jobs still to do from a reading: 7, 8, 9, then 13, 14 and the reading's 5, and what is found "by the same rule
-- with the whole frame's limits".
unfoldable pub afresh_for : Sheet → State → ℕ → ℕ → Answer
afresh_for s a words bytes = unless (lack_of (need s) (jobs_left s a) words bytes) (unless (fault_of s a) (found_from s a))

-- The answer to a sheet that was read: the refusal, or what is answered for its figures.
unfoldable pub answer_by : SheetRead → (Sheet → Answer) → Answer
answer_by r answer = unless r.refusal (answer (sheet_of r.head r.store))

-- The same of what is handed on where a sheet was read: the refusal, or what is answered for the sheet.
abbrev pub answer_handed : Result ReadSheet Refusal → (Sheet → Answer) → Answer
answer_handed (Ok p) answer = answer (sheet_read p)
answer_handed (Err f) answer = refused f

-- The answer to a sheet, with a table of so many words and a part of so many bytes.
unfoldable pub answer_of : List ℕ → ℕ → ℕ → Answer
answer_of sheet words bytes = answer_by (reading_of sheet) (λ s. answer_for s words bytes)

-- The same, planned afresh from a reading.
unfoldable pub afresh_of : List ℕ → State → ℕ → ℕ → Answer
afresh_of sheet a words bytes = answer_by (reading_of sheet) (λ s. afresh_for s a words bytes)
