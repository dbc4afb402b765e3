-- The cell is the library's quotient by the step, which is not 0.
use mathlib.Core.Path.{◌∙◌}
use Rattle.table.proofs.Rounded.{rounded_up}
use Rattle.table.proofs.axes.HeadAxes.temperature_cell.Goals as goal

pub returns : goal.returns
returns c = c.div_ceil.ensures ∙ rounded_up c.args.temperature c.args.self.head.temperature_step c.requires
