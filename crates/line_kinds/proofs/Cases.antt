-- The lines worked by hand are read as their rows say.
-- Assumes nothing.
use mathlib.Core.Path.{refl}
use Rattle.thermal.specs.Thermal.{steady_state}
use Rattle.text.specs.Text.{before, until, beyond, ahead, count, all}
use Rattle.numbers.specs.Number.{leading_zero, is_number, value_from}
use Rattle.fields.specs.Fields.{opens, numbers_from, fields_of}
use Rattle.line_kinds.specs.Figures.{steady_fields, level_fields}
use Rattle.line_kinds.specs.Cases.{Cases}

pub cases_hold : Cases
unfolding level_fields steady_fields steady_state fields_of numbers_from opens is_number leading_zero value_from before until beyond ahead count all
cases_hold = record { lawful = refl; warm = refl; half_warm = refl }
