-- `read_jobs` reads what the definition reads, by an invariant of the jobs whose lines are read (`PartsLeft`).
use borrow.Author.Rules.{rules}
use mathlib.Core.Path.{sym, ◌∙◌}
use Rattle.std.proofs.lemmas.Result.{err_from_is_err_and}
use Rattle.body.specs.Body.{jobs_from}
use Rattle.body.proofs.Body.{parts_all, parts_more, parts_stop, parts_on, job_unnamed, job_named}
use Rattle.body.proofs.read_jobs.Goals as goal

pub returns-in_err-works : goal.returns-in_err-works
returns-in_err-works c =
    let p = err_from_is_err_and c.from_residual.result c.from_residual.ensures.1 in
    rw (p.1, p.2) (job_unnamed _ _ _ _ _ c.in_err-works.ensures ∙ sym (parts_more c.loop-i.invariant (search rules)))

pub returns-in_err-place : goal.returns-in_err-place
returns-in_err-place c =
    let p = err_from_is_err_and c.from_residual-in_err-place.result c.from_residual-in_err-place.ensures.1 in
    rw (p.1, p.2)
    (parts_stop c.loop-i.invariant (search rules) (job_named _ _ _ _ _ c.in_ok-works.ensures) c.in_err-place.ensures)

pub loop-i-preserved : goal.loop-i-preserved
loop-i-preserved c = parts_on c.loop-i.invariant (search rules) (job_named _ _ _ _ _ c.in_ok-works.ensures) c.in_ok-place.ensures

pub returns : goal.returns
unfolding jobs_from
returns c = sym (parts_all c.loop-i.invariant (search rules))
