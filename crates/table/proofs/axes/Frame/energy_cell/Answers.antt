-- The step is not 0, by the invariant of the frame.
use Rattle.table.proofs.axes.Frame.energy_cell.Goals as goal

pub energy_cell-requires : goal.energy_cell-requires
energy_cell-requires c = rw c.axes.ensures c.args.self.bounded.energy_step.low

pub returns : goal.returns
returns c = rw c.axes.ensures at c.energy_cell.ensures
