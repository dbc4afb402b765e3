-- `read_jobs` reads what the definition reads, by an invariant of the jobs whose lines are read (`PartsLeft`).
use Rattle.body.specs.Body.{jobs_from}
use Rattle.reading.specs.Rest.{rest_of}
use Rattle.body.proofs.Body.{PartsLeft}
use Rattle.body.proofs.read_jobs.Given as goal

abbrev pub invariant-loop-i : goal.invariant-loop-i
invariant-loop-i l = PartsLeft (jobs_from l.fn.counts.levels) l.fn.counts.jobs l.i (rest_of l.fn.start) l.initial.store (rest_of l.place) l.store
