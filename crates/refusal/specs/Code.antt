-- What is refused (document 01, 'What is refused'; document 02, W1): a line's fault as a refusal, a refusal's number, line and field, and
-- what follows where there is none.
-- Assumes nothing.
use Rattle.std.specs.Prelude.{ℕ, Option, Some, None}
use Rattle.fields.specs.declared.Fault.{Fault}
use Rattle.fields.specs.declared.Fault.TheVariants.{Shape, Form, Range}
use Rattle.reading.specs.declared.LineFault.{LineFault}
use Rattle.refusal.specs.declared.Refusal.{Refusal}
use Rattle.refusal.specs.declared.Refusal.TheVariants.{TooLong, Line, Form as FormAt, Range as RangeAt, Hot, Trailing, TableTooLarge, TableShort, PartShort, NoPlan, ListLength, LevelTooHigh, AllDone, ReadingRange, ReadingHot}

-- A fault of a line as a refusal: 2 for its letter, its count of fields or a missing line, 3 for a field's form, 4 for a field's range.
abbrev pub refusal_as : ℕ → Fault → Refusal
refusal_as line Shape = Line line
refusal_as line (Form field) = FormAt line field
refusal_as line (Range field) = RangeAt line field

abbrev pub refusal_of : LineFault → Refusal
refusal_of f = refusal_as f.line f.fault

-- The number that document 01 gives a refusal.
abbrev pub number_of : Refusal → ℕ
number_of TooLong = 1
number_of (Line line) = 2
number_of (FormAt line field) = 3
number_of (RangeAt line field) = 4
number_of Hot = 5
number_of (Trailing line) = 6
number_of TableTooLarge = 7
number_of TableShort = 8
number_of PartShort = 9
number_of NoPlan = 10
number_of ListLength = 11
number_of (LevelTooHigh place) = 12
number_of AllDone = 13
number_of ReadingRange = 14
number_of ReadingHot = 5

-- The line that it returns; a sheet's 5 is "line 2, field 8", and "A reading above the ceiling is number 5 with line 0, field 0".
abbrev pub line_of : Refusal → ℕ
line_of TooLong = 0
line_of (Line line) = line
line_of (FormAt line field) = line
line_of (RangeAt line field) = line
line_of Hot = 2
line_of (Trailing line) = line
line_of TableTooLarge = 0
line_of TableShort = 0
line_of PartShort = 0
line_of NoPlan = 0
line_of ListLength = 0
line_of (LevelTooHigh place) = 0
line_of AllDone = 0
line_of ReadingRange = 0
line_of ReadingHot = 0

-- The field that it returns; of 12 it is "field the first such place, from 0".
abbrev pub field_of : Refusal → ℕ
field_of TooLong = 0
field_of (Line line) = 0
field_of (FormAt line field) = field
field_of (RangeAt line field) = field
field_of Hot = 8
field_of (Trailing line) = 0
field_of TableTooLarge = 0
field_of TableShort = 0
field_of PartShort = 0
field_of NoPlan = 0
field_of ListLength = 0
field_of (LevelTooHigh place) = place
field_of AllDone = 0
field_of ReadingRange = 0
field_of ReadingHot = 0

-- What follows a test: where it refuses, what is made of its refusal, and else what comes next.
abbrev pub accepted : {X : Type 0} → Option Refusal → (Refusal → X) → X → X
accepted None away go = go
accepted (Some f) away go = away f
