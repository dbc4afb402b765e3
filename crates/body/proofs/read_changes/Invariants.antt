-- `read_changes` reads what the definition reads, by an invariant of the levels left whose S lines are read (`PartsLeft`).
use Rattle.body.specs.Body.{changes_from}
use Rattle.reading.specs.Rest.{rest_of}
use Rattle.body.proofs.Body.{PartsLeft}
use Rattle.body.proofs.read_changes.Given as goal

abbrev pub invariant-loop-p : goal.invariant-loop-p
invariant-loop-p l =
    PartsLeft (changes_from l.fn.counts.levels) l.fn.counts.levels l.p (rest_of l.fn.start) l.initial.store (rest_of l.place) l.store
