-- `skip_lines` reaches the line that the definition reaches, by an invariant of the lines passed (`Skipped`).
use Rattle.name_places.proofs.Place.{skipped_none, skipped_on, skipped_all}
use Rattle.name_places.proofs.skip_lines.Goals as goal

pub loop-init : goal.loop-init
loop-init c = skipped_none _ _

pub loop-preserved : goal.loop-preserved
loop-preserved c = rw (c.behind-rest.ensures, c.find.ensures) (skipped_on _ _ _ _ c.loop.invariant c.loop-test.true)

pub returns : goal.returns
returns c = skipped_all _ _ _ _ c.loop.invariant c.loop-test.false
