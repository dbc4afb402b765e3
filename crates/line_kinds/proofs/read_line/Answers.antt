-- `read_line` gives what the definition says, by the line's kind.
use mathlib.Core.Path.{sym, ◌∙◌}
use Rattle.std.proofs.lemmas.Result.{err_from_is_err_and}
use Rattle.line_kinds.proofs.Figures.{for_level, for_level_fault, for_change, for_change_fault, for_work, for_work_fault}
use Rattle.line_kinds.proofs.read_line.Goals as goal

pub returns-in_err-power-in-Level : goal.returns-in_err-power-in-Level
returns-in_err-power-in-Level c =
    let p = err_from_is_err_and c.from_residual.result c.from_residual.ensures.1 in
    rw (p.1, p.2) (for_level_fault _ _ _ _ c.in-Level.is _ (sym c.in_err-power-in-Level.ensures))

pub returns-in_ok-power-in-Level : goal.returns-in_ok-power-in-Level
returns-in_ok-power-in-Level c = c.level_entry.ensures ∙ for_level _ _ _ _ c.in-Level.is _ (sym c.in_ok-power-in-Level.ensures)

pub returns-in_err-numbers-in-Change : goal.returns-in_err-numbers-in-Change
returns-in_err-numbers-in-Change c =
    let p = err_from_is_err_and c.from_residual-in_err-numbers-in-Change.result c.from_residual-in_err-numbers-in-Change.ensures.1 in
    rw (p.1, p.2) (for_change_fault _ _ _ _ c.in-Change.is _ c.cost_range-range.ensures _ (sym c.in_err-numbers-in-Change.ensures))

pub returns-in_ok-numbers-in-Change : goal.returns-in_ok-numbers-in-Change
returns-in_ok-numbers-in-Change c =
    rw c.change_entry.ensures (for_change _ _ _ _ c.in-Change.is _ c.cost_range-range.ensures _ (sym c.in_ok-numbers-in-Change.ensures))

pub returns-in_err-numbers-in-Work : goal.returns-in_err-numbers-in-Work
returns-in_err-numbers-in-Work c =
    let p = err_from_is_err_and c.from_residual-in_err-numbers-in-Work.result c.from_residual-in_err-numbers-in-Work.ensures.1 in
    rw (p.1, p.2) (for_work_fault _ _ _ c.in-Work.is _ (sym c.in_err-numbers-in-Work.ensures))

pub returns-in_ok-numbers-in-Work : goal.returns-in_ok-numbers-in-Work
returns-in_ok-numbers-in-Work c = rw c.work_entry.ensures (for_work _ _ _ c.in-Work.is _ (sym c.in_ok-numbers-in-Work.ensures))
