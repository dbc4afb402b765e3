-- The sheet's start is a state like any other.
use mathlib.Core.Path.{ap}
use Rattle.std.specs.Prelude.{Ok}
use Rattle.std.proofs.lemmas.Result.{err_from_is_err_and}
use Rattle.frame.specs.Run.{State}
use Rattle.sheet.specs.Reading.{read_in}
use Rattle.demands.specs.Order.{answer_by}
use Rattle.demands.proofs.Order.{answers_start, handed_away, handed_on}
use Rattle.planner.proofs.plan_read.Goals as goal

pub returns-in_err-read : goal.returns-in_err-read
returns-in_err-read c =
    let p = err_from_is_err_and c.from_residual.result c.from_residual.ensures.1 in
    rw (p.1, p.2) (handed_away _ _ c.in_err-read.was)

pub plan_left-requires : goal.plan_left-requires
plan_left-requires c = ap (λ (x : State). x.peak) (c.start_of-start.ensures c.in_ok-read.field-0.store.now)

pub returns : goal.returns
unfolding answer_by
returns c =
    let r = c.in_ok-read.field-0 in
    let m = c.in_ok-read.was in
    let h = rw m at c.plan_left.ensures in
    handed_on _ r m (answers_start _ _ _ _ (read_in (Ok r.head) r.store.now) _ _ (λ e. r.ranges) (c.start_of-start.ensures r.store.now) h)
