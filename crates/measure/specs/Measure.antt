-- The measuring call (document 01, 'The run without grains' and 'What is refused'): "takes any list of levels and gives three
-- signed margins", or refusals 1 to 6 of the sheet, then 11, then 12.
-- Assumes nothing.
use Rattle.std.specs.Prelude.{cond, List, [], ◌∷◌, ℕ, suc, eqb, leb, ltb, ℤ, pos, length, Result, Ok, Err}
use Rattle.frame.specs.Sheet.{Sheet}
use Rattle.frame.specs.Limits.{Margins, margins}
use Rattle.refusal.specs.declared.Refusal.{Refusal}
use Rattle.refusal.specs.Code.{number_of, line_of, field_of, accepted}
use Rattle.sheet.specs.Reading.{reading_of, sheet_in}
use Rattle.measure.specs.declared.Margins.{Margins as Given}

-- The first place, from 0, at which "a level is l or more"; the list's length where there is none.
unfoldable pub first_above : ℕ → List ℕ → ℕ
first_above l [] = 0
first_above l (j ∷ js) = cond (leb l j) 0 (suc (first_above l js))

-- What the measuring call says of a list: a refusal's number, line and field, or the three margins.
pub record Measured : Type 0 where
  pub refusal : ℕ
  pub line : ℕ
  pub field : ℕ
  pub time : ℤ
  pub energy : ℤ
  pub temperature : ℤ

-- "Every figure of a refused reply not named is 0."
abbrev pub refused_measured : ℕ → ℕ → ℕ → Measured
refused_measured number line field = record { refusal = number; line = line; field = field; time = pos 0; energy = pos 0; temperature = pos 0 }

-- The three margins.
abbrev pub measured_as : Margins → Measured
measured_as k = record { refusal = 0; line = 0; field = 0; time = k.time; energy = k.energy; temperature = k.temperature }

-- A refusal, with what document 01 returns for it.
abbrev pub turned_away : Refusal → Measured
turned_away f = refused_measured (number_of f) (line_of f) (field_of f)

-- The same by what the call hands back.
abbrev pub measured_by : Result Given Refusal → Measured
measured_by (Ok k) = measured_as (record { time = k.time; energy = k.energy; temperature = k.temperature })
measured_by (Err f) = turned_away f

-- A list of levels on a sheet: 11, "list length is not m", "0, 0"; 12, "a level is l or more", "line 0, field the first such
-- place, from 0"; and else its margins.
unfoldable pub measure_of : List ℕ → List ℕ → Measured
measure_of t js =
    let s : Sheet = sheet_in t in
    let place : ℕ = first_above s.levels js in
    accepted (reading_of t).refusal turned_away
    (cond (eqb (length js) s.jobs)
    (cond (ltb place (length js)) (refused_measured 12 0 place) (measured_as (margins s js)))
    (refused_measured 11 0 0))
