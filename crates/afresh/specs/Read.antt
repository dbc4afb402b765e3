-- The state that is read after a job (document 02, W1).
-- Assumes nothing.
use Rattle.frame.specs.Run.{State}
use Rattle.frame.specs.Afresh.{reading}
use Rattle.afresh.specs.declared.Reading.{Reading}

-- "Given jobs done, present level, elapsed time, energy spent and temperature"
abbrev pub read_of : Reading → State
read_of r = reading r.done r.level r.time r.energy r.temperature
