-- `level_entry` gives what the definition says, by the steady-state temperature of the power.
use Rattle.line_kinds.proofs.Figures.{level_hot, level_sound}
use Rattle.line_kinds.proofs.level_entry.Goals as goal

pub returns-then-steady_state-gt-STEADY_STATE_MAX : goal.returns-then-steady_state-gt-STEADY_STATE_MAX
returns-then-steady_state-gt-STEADY_STATE_MAX c = level_hot _ _ (rw c.steady_state.ensures at c.if-steady_state-gt-STEADY_STATE_MAX.true)

pub returns : goal.returns
returns c = level_sound _ _ (rw c.steady_state.ensures at c.if-steady_state-gt-STEADY_STATE_MAX.false)
