-- The step is not 0, by the invariant of the frame.
use Rattle.table.proofs.axes.Frame.temperature_cell.Goals as goal

pub temperature_cell-requires : goal.temperature_cell-requires
temperature_cell-requires c = rw c.axes.ensures c.args.self.bounded.temperature_step.low

pub returns : goal.returns
returns c = rw c.axes.ensures at c.temperature_cell.ensures
