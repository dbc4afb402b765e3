-- `name_at` passes over n lines and hands back the name on the line that it reaches, by the contracts of the two.
use mathlib.Core.Path.{refl}
use Rattle.names.specs.Name.{name_at}
use Rattle.names.proofs.name_at.Goals as goal

pub returns : goal.returns
unfolding name_at
returns c = rw (c.name_on.ensures, c.skip_lines.ensures) refl
