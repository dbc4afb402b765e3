-- Whether there is a plan, by the start's word in the filled table, and its levels, by the walk.
use mathlib.Core.Path.{refl}
use Prim.Native.Nat.{◌-◌}
use native.Mathlib.Omega.{arith}
use Rattle.frame.proofs.Words.{least_bounded}
use Rattle.store.specs.Figures.{sheet_of}
use Rattle.run.specs.Run.{state_of}
use Rattle.table.specs.Problem.{sheet_for}
use Rattle.table.proofs.Cells.{filled_words}
use Rattle.solve.proofs.Finding.{start_looks, start_rest, finds_spent, finds_none, finds_plan, starts}
use Rattle.solve.proofs.find_plan.Goals as goal

pub fill-requires : goal.fill-requires
fill-requires c = c.requires.table

pub returns-then-f-start : goal.returns-then-f-start
unfolding sheet_of
returns-then-f-start c =
    let a = c in
    let w = a.requires in
    finds_spent (sheet_for c.args.problem.now) _ _ c.args.problem.now.framed.axes.ranges (omega (arith, w.readable.done)) w.peak c.if-f-start.true c.fill.ensures refl

pub rest_of-least-requires : goal.rest_of-least-requires
unfolding sheet_of
rest_of-least-requires c =
    let a = c.requires in
    rw c.axes.ensures
    (λ d.
    start_looks c.args.problem.now.framed.axes _ a.readable (omega (arith, c.if-f-start.false)) (omega (arith, a.table, c.fill.auto.table)) d)

pub overflow_add-start : goal.overflow_add-start
overflow_add-start c =
    let a = c in
    omega (arith, (start_rest c.args.problem.now.framed.axes _ c.requires.readable (omega (arith, c.if-f-start.false)) c.args.table.now _ _ c.requires.table c.fill.ensures c.axes.ensures c.rest_of-least.ensures), least_bounded (sheet_for c.args.problem.now) c.args.problem.now.framed.axes.ranges ((sheet_for c.args.problem.now).jobs - a.args.start.done) (state_of a.args.start), a.requires.readable.range.time)

pub returns-then-f-start-2 : goal.returns-then-f-start-2
unfolding sheet_of
returns-then-f-start-2 c = finds_none _ _ _ _ (start_rest c.args.problem.now.framed.axes _ c.requires.readable (omega (arith, c.if-f-start.false)) c.args.table.now _ _ c.requires.table c.fill.ensures c.axes.ensures c.rest_of-least.ensures) c.if-f-start-2.true c.fill.ensures refl

pub walk-requires : goal.walk-requires
unfolding sheet_of
walk-requires c =
    let a = c in
    let w = a.requires in
    record {
      room = omega (arith, w.table, c.fill.auto.table);
      words = λ i. rw c.fill.ensures (filled_words (sheet_for c.args.problem.now) a.args.table.now i w.table);
      starts = starts _ c.args.problem.now.framed.axes.ranges w.readable (omega (arith, c.if-f-start.false)) (start_rest c.args.problem.now.framed.axes _ c.requires.readable (omega (arith, c.if-f-start.false)) c.args.table.now _ _ c.requires.table c.fill.ensures c.axes.ensures c.rest_of-least.ensures) (omega (arith, c.if-f-start-2.false));
      long = w.part;
    }

pub returns : goal.returns
unfolding sheet_of
returns c = finds_plan _ _ _ _ (start_rest c.args.problem.now.framed.axes _ c.requires.readable (omega (arith, c.if-f-start.false)) c.args.table.now _ _ c.requires.table c.fill.ensures c.axes.ensures c.rest_of-least.ensures) c.if-f-start-2.false c.fill.ensures c.walk.ensures
