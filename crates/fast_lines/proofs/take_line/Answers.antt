-- `take_line` takes what the definition says, by the line's kind: the numbers by `take_numbers`.
use mathlib.Core.Path.{◌∙◌}
use Rattle.fast_lines.proofs.Entries.{level, level_held, change, work}
use Rattle.fast_lines.proofs.take_line.Goals as goal

pub returns-in_err-power-in-Level : goal.returns-in_err-power-in-Level
returns-in_err-power-in-Level c = c.from_residual.ensures ∙ level _ _ _ _ c.in-Level.is c.in_err-power-in-Level.ensures

pub returns-in_err-entry-in-Level : goal.returns-in_err-entry-in-Level
returns-in_err-entry-in-Level c =
    c.from_residual-in_err-entry-in-Level.ensures
    ∙ level_held _ _ _ _ c.in-Level.is _ _ c.in_ok-power-in-Level.ensures _ c.level_entry.ensures _ c.in_err-entry-in-Level.ensures.value

pub returns-in_ok-entry-in-Level : goal.returns-in_ok-entry-in-Level
returns-in_ok-entry-in-Level c =
    level_held _ _ _ _ c.in-Level.is _ _ c.in_ok-power-in-Level.ensures _ c.level_entry.ensures _ c.in_ok-entry-in-Level.ensures.value

pub returns-in_err-numbers-in-Change : goal.returns-in_err-numbers-in-Change
returns-in_err-numbers-in-Change c =
    c.from_residual-in_err-numbers-in-Change.ensures ∙ change _ _ _ _ c.in-Change.is _ c.cost_range-range.ensures c.in_err-numbers-in-Change.ensures

pub returns-in_ok-numbers-in-Change : goal.returns-in_ok-numbers-in-Change
returns-in_ok-numbers-in-Change c =
    rw c.change_entry.ensures (change _ _ _ _ c.in-Change.is _ c.cost_range-range.ensures c.in_ok-numbers-in-Change.ensures)

pub returns-in_err-numbers-in-Work : goal.returns-in_err-numbers-in-Work
returns-in_err-numbers-in-Work c = c.from_residual-in_err-numbers-in-Work.ensures ∙ work _ _ _ c.in-Work.is c.in_err-numbers-in-Work.ensures

pub returns-in_ok-numbers-in-Work : goal.returns-in_ok-numbers-in-Work
returns-in_ok-numbers-in-Work c = rw c.work_entry.ensures (work _ _ _ c.in-Work.is c.in_ok-numbers-in-Work.ensures)
