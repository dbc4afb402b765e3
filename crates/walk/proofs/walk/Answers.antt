-- What is written is the plan, by an invariant of the cell reached and of the levels written (`Steps`).
use mathlib.Core.Path.{sym, ap, ◌∙◌}
use mathlib.Core.List.{List, ◌++◌}
use Prim.Native.Nat.{ℕ, ◌-◌}
use native.Mathlib.Omega.{arith}
use lib.ListN.{drop}
use lib.Seq.{length-take-le}
use Rattle.frame.specs.Run.{State}
use Rattle.frame.specs.Plan.{plan}
use Rattle.run.specs.Run.{state_of}
use Rattle.table.specs.Problem.{sheet_for}
use Rattle.table.proofs.Cells.{raises}
use Rattle.table.proofs.Ways.{next_at_cell, next_peak}
use Rattle.walk.proofs.Steps.{raised_cell, cell_rests, starts_at, starts_plan, starts_way, going_start, within, going_level, going_next, going_end}
use Rattle.walk.proofs.walk.Goals as goal

pub loop-level-init : goal.loop-level-init
loop-level-init c =
    let x = c.args.problem.now.framed.axes in
    let w = c.requires.starts in
    let e = raised_cell x c.args.start _ c.raise_run-a.ensures in
    going_start x.ranges _ _ _ (length-take-le _ c.args.part.now (omega (arith, c.requires.long, x.jobs))) (omega (arith, ap (λ (z : State). z.done) e, w.done, x.jobs)) (starts_at x.ranges w e) (starts_way x.ranges _ w e (omega (arith, x.jobs)))

pub overflow_cast-level : goal.overflow_cast-level
overflow_cast-level c =
    let ok = c.args.problem.now.framed.axes.ranges in
    omega (arith, (going_level ok c.loop-level.invariant (within c.args.part.now c.loop-level-test.true) c.args.table.now (c.requires.words _) _ c.choose-j.ensures).level, ok.levels.high)

pub next_job-requires : goal.next_job-requires
next_job-requires c =
    let p = c.args.problem.now.framed in
    let g = c.loop-level.invariant in
    let l = (within c.args.part.now c.loop-level-test.true) in
    cell_rests p c.loop-level.a (g.at l) _ (going_level p.axes.ranges g l c.args.table.now (c.requires.words _) _ c.choose-j.ensures).level

pub raise_run-a-requires-in-loop-level : goal.raise_run-a-requires-in-loop-level
raise_run-a-requires-in-loop-level c =
    let p = c.args.problem.now.framed in
    let l = c.loop-level in
    let w = going_level p.axes.ranges l.invariant (within c.args.part.now c.loop-level-test.true) c.args.table.now (c.requires.words _) _ c.choose-j.ensures in
    let s = sheet_for c.args.problem.now in
    let x = c.next_job.ensures _ p.stored ∙ sym (next_at_cell s c.choose-j.result (l.invariant.at (within c.args.part.now c.loop-level-test.true))) in
    raises p.axes.ranges c.next_job.result (omega (arith, ap (λ (z : State). z.energy) x, w.energy)) (omega (arith, ap (λ (z : State). z.temperature) x, next_peak s (state_of l.a) c.choose-j.result, w.peak))

pub loop-level-preserved : goal.loop-level-preserved
loop-level-preserved c =
    let p = c.args.problem.now.framed in
    going_next p.axes.ranges c.loop-level.invariant (within c.args.part.now c.loop-level-test.true) c.args.table.now (c.requires.words _) _ c.choose-j.ensures _ _ (c.next_job.ensures _ p.stored) (raised_cell p.axes c.next_job.result _ c.raise_run-a-in-loop-level.ensures)

pub returns : goal.returns
returns c =
    let x = c.args.problem.now.framed.axes in
    let s = sheet_for c.args.problem.now in
    let m = c.args.problem.now.frame.head.jobs - c.args.start.done in
    let g = c.loop-level.invariant in
    ap (λ (js : List ℕ). js ++ drop m c.args.part.now) (going_end x.ranges (omega (arith, c.loop-level-test.false, c.loop-level.auto, g.long)) g ∙ starts_plan x.ranges _ m (raised_cell x c.args.start _ c.raise_run-a.ensures))
    ∙ ap (λ (k : ℕ). plan s (k - c.args.start.done) (state_of c.args.start) ++ drop (k - c.args.start.done) c.args.part.now) x.jobs
