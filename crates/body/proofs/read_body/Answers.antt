-- `read_body` reads the L lines, the S lines and the jobs' lines in order, each by its contract; the first fault ends it.
use Rattle.std.proofs.lemmas.Result.{err_from_is_err_and}
use Rattle.body.proofs.Body.{body_levels, body_changes, body_jobs}
use Rattle.body.proofs.read_body.Goals as goal

pub returns-in_err-changes : goal.returns-in_err-changes
returns-in_err-changes c =
    let p = err_from_is_err_and c.from_residual.result c.from_residual.ensures.1 in
    rw (p.1, p.2) (body_levels _ _ _ _ _ c.in_err-changes.ensures)

pub returns-in_err-jobs : goal.returns-in_err-jobs
returns-in_err-jobs c =
    let p = err_from_is_err_and c.from_residual-in_err-jobs.result c.from_residual-in_err-jobs.ensures.1 in
    rw (p.1, p.2) (body_changes _ _ _ _ _ c.in_ok-changes.ensures c.in_err-jobs.ensures)

pub returns : goal.returns
returns c = body_jobs _ _ _ _ _ c.in_ok-changes.ensures c.in_ok-jobs.ensures c.read_jobs.ensures
