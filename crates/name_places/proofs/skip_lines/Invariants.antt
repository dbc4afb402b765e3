-- `skip_lines` reaches the line that the definition reaches, by an invariant of the lines passed (`Skipped`).
use Rattle.name_places.proofs.Place.{Skipped}
use Rattle.name_places.proofs.skip_lines.Given as goal

abbrev pub invariant-loop : goal.invariant-loop
invariant-loop l = Skipped l.t l.n l.counter l.rest
