-- The reply by what was found: the figures of the exact run of the plan's levels from the same start, or 10.
use mathlib.Core.Path.{refl, ap}
use Prim.Native.Nat.{◌-◌, ◌<◌}
use native.Mathlib.Omega.{arith}
use lib.Seq.{get_or-take, length-take-le}
use Rattle.std.specs.Prelude.{Ok}
use Rattle.std.proofs.lemmas.Result.{err_from_is_err_and}
use Rattle.store.specs.Figures.{sheet_of}
use Rattle.step.proofs.Store.{figures_stored}
use Rattle.refusal.proofs.Apart.{failed, passed}
use Rattle.reply.specs.Reply.{reply_by}
use Rattle.reply.specs.declared.Totals.{Totals}
use Rattle.solve.proofs.Finding.{plan_levels, answers_plan, answers_none}
use Rattle.solve.proofs.solve.Goals as goal

pub steady_states-steady-requires : goal.steady_states-steady-requires
unfolding sheet_of
steady_states-steady-requires c = λ j h. let a = c in a.requires.axes.ranges.steady j

pub invariant_of-problem : goal.invariant_of-problem
invariant_of-problem c = record { framed = record { axes = c.requires.axes; stored = figures_stored c.steady_states-steady.ensures c.args.frame.head refl } }

pub find_plan-requires : goal.find_plan-requires
find_plan-requires c = c.requires.ready

pub returns-in_err-find_plan : goal.returns-in_err-find_plan
unfolding sheet_of
returns-in_err-find_plan c =
    let p = err_from_is_err_and c.from_residual.result c.from_residual.ensures.1 in
    rw (p.1, p.2) (answers_none _ _ _ _ _ _ _ _ c.find_plan.ensures _ (failed refl c.in_err-find_plan.was))

pub run_levels-requires : goal.run_levels-requires
unfolding sheet_of
run_levels-requires c =
    let ok = c.requires.axes.ranges in
    let w = c.requires.ready in
    let n = c.args.frame.head.jobs - c.args.start.done in
    let part = c.find_plan.new.part in
    let long = length-take-le n part (omega (arith, w.part, c.find_plan.auto.part)) in
    let levels = plan_levels _ _ _ _ _ _ _ _ c.find_plan.ensures ok (omega (arith, w.readable.done)) w.peak (passed refl c.in_ok-find_plan.was) in
    record {
      begun =
          record {
            sheet = sheet_of c.args.frame.head c.args.store.now;
            ranges = ok;
            stored = figures_stored c.steady_states-steady.ensures c.args.frame.head refl;
            done = omega (arith, w.readable.done, ok.jobs.high, long);
            level = omega (arith, w.readable.range.level, ok.levels.high);
            time = w.readable.range.time;
            energy = w.readable.range.energy;
            temperature = w.readable.range.temperature;
          };
      below = λ i h. let l : i < n = omega (arith, h, long) in omega (arith, get_or-take n part i 0 l, levels i l, ok.levels.high);
    }

pub returns : goal.returns
unfolding sheet_of
returns c =
    let ok = c.requires.axes.ranges in
    let w = c.requires.ready in
    let stored = figures_stored c.steady_states-steady.ensures c.args.frame.head refl in
    answers_plan _ _ _ _ _ _ _ _ c.find_plan.ensures ok (omega (arith, w.readable.done)) w.peak (passed refl c.in_ok-find_plan.was) _ _ (c.run_levels.ensures (sheet_of c.args.frame.head c.args.store.now) ok stored) (ap (λ (t : Totals). reply_by (Ok t)) c.into.ensures)
