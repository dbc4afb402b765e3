-- The sheets worked by hand are read as their rows say.
-- Assumes nothing.
use mathlib.Core.Path.{refl}
use Rattle.thermal.specs.Thermal.{steady_state}
use Rattle.text.specs.Text.{before, until, beyond, ahead, count, all}
use Rattle.numbers.specs.Number.{leading_zero, is_number, value_from}
use Rattle.fields.specs.Fields.{opens, numbers_from, fields_of}
use Rattle.line_kinds.specs.Figures.{steady_fields, level_fields, change_fields, work_fields, fields_for, put}
use Rattle.name_lines.specs.Name.{is_name, name_fault}
use Rattle.lines.specs.Lines.{block_from}
use Rattle.reading.specs.Rest.{next_by}
use Rattle.body.specs.Body.{changes_from, jobs_from, body_from}
use Rattle.head.specs.Head.{version_fields, others_of, head_fields}
use Rattle.sheet.specs.Reading.{figures_from, head_from, reading_of}
use Rattle.sheet.specs.Cases.{Cases}

pub cases_hold : Cases
unfolding reading_of head_from figures_from next_by body_from jobs_from changes_from block_from fields_for level_fields steady_fields steady_state change_fields work_fields put fields_of numbers_from opens is_number leading_zero value_from is_name name_fault version_fields others_of head_fields before until beyond ahead count all
cases_hold =
    record {
      whole = refl;
      empty = ((refl, refl, refl), refl);
      version = ((refl, refl, refl), refl);
      start = ((refl, refl, refl), refl);
      lawful = refl;
      too_warm = ((refl, refl, refl), refl);
    }
