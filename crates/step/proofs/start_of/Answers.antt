-- The run at a sheet's start: the head alone says where that is.
use Rattle.store.specs.Figures.{sheet_of}
use Rattle.step.proofs.start_of.Goals as goal

pub returns : goal.returns
unfolding sheet_of
returns c = λ store. c.fresh.ensures
