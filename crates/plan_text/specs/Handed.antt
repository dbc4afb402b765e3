-- What writing a plan's text rests on.
-- Assumes nothing.
use Rattle.std.specs.Prelude.{◌≡◌, List, ℕ, ◌≤◌, ◌<◌, length, get_or, None}
use Rattle.store.specs.declared.sheet.ReadSheet.{ReadSheet}
use Rattle.store.specs.Store.{levels_max}
use Rattle.run.specs.declared.Run.{Run}
use Rattle.sheet.specs.Reading.{reading_of}
use Rattle.name_lines.specs.Name.{name_max}
use Rattle.name_places.specs.Place.{next_name}
use Rattle.writer.specs.declared.Writer.{Writer}
use Rattle.writer.specs.Decimal.{number_end}
use Rattle.writer.specs.Written.{Room}
use Rattle.plan_lines.specs.Lines.{job_line_max}

-- The sheet is that of the text t, read without refusal, and there is a level for each of its jobs.
pub record Handed (t : List ℕ) (p : ReadSheet) (levels : List ℕ) : Type 0 where
  pub read : record { refusal = None; head = p.head; store = p.store.now } ≡ reading_of t
  pub each : p.head.jobs ≤ length levels
  pub below : (i : ℕ) → i < p.head.jobs → get_or levels i 0 < levels_max

-- A job that ends in a run has a Q line: the text t starts with its J line, the writer has room, and no figure has more than 10 digits.
pub record Ended (t : List ℕ) (w : Writer) (a : Run) : Type 0 where
  pub name : length (next_name t) ≤ name_max
  pub room : Room w job_line_max
  pub time : a.time < number_end
  pub energy : a.energy < number_end
  pub temperature : a.temperature < number_end
