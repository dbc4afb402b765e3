-- The figures of a sheet that was read are its own (`Store`): none of its steady-state temperatures is too high.
use mathlib.Core.Path.{refl}
use Rattle.store.specs.Figures.{sheet_of}
use Rattle.step.proofs.Store.{figures_stored}
use Rattle.step.proofs.Figures.of.Goals as goal

pub steady_states-requires : goal.steady_states-requires
unfolding sheet_of
steady_states-requires c = λ j h. c.args.sheet.ranges.steady j

pub returns-clause-stored : goal.returns-clause-stored
returns-clause-stored c = figures_stored c.steady_states.ensures c.args.sheet.head refl
