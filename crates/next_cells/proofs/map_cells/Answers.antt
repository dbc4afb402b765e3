-- Each temperature cell has the cell after the job, by an invariant over the cells written.
use mathlib.Core.Path.{◌≡◌, refl, ap, ◌∙◌}
use Prim.Native.Nat.{ℕ, ◌*◌, ◌≤◌, ◌<◌}
use native.Mathlib.Nat.{zero-add}
use native.Mathlib.Omega.{arith}
use Rattle.thermal.specs.Thermal.{raised_temperature_max}
use Rattle.frame.specs.Sheet.{Sheet}
use Rattle.frame.specs.Run.{State, step}
use Rattle.frame.specs.Table.{temperature_cells}
use Rattle.frame.proofs.Tabulate.{tabulated}
use Rattle.table.specs.declared.axes.Frame.{Frame}
use Rattle.table.specs.Table.{Axes}
use Rattle.step.proofs.Store.{rests}
use Rattle.table.proofs.Cells.{cell_temperature}
use Rattle.spans.proofs.Stepping.{spans_more}
use Rattle.table.specs.Problem.{sheet_for}
use Rattle.next_cells.specs.Next.{warmed}
use Rattle.next_cells.proofs.Warming.{cell_is}
use Rattle.next_cells.proofs.map_cells.Goals as goal

-- The temperature of a turn's cell is small.
warm_small : {s : Sheet} {f : Frame} {b n : ℕ} → Axes s f → n ≡ temperature_cells s → b < n → b * f.head.temperature_step ≤ raised_temperature_max
warm_small {s} {f} {b} g e l = omega (arith, ap (λ (h : ℕ). b * h) g.temperature_step, cell_temperature _ g.ranges b (omega (arith, l, e)))

-- The temperature after the job, by the definitions.
warms : (c : goal.After-cell_of) → let a = c.args in
    c.next_job-after.result.temperature ≡ warmed (sheet_for a.problem.now) a.i a.j (c.loop-b.b * (sheet_for a.problem.now).temperature_step)
warms c =
    let a = c.args in
    let s = sheet_for a.problem.now in
    let g = a.problem.now.framed in
    ap (λ (q : State). q.temperature) (c.next_job-after.ensures s g.stored ∙ ap (λ (q : State). step s q a.j) c.fresh-run.ensures)
    ∙ ap (λ (h : ℕ). warmed s a.i a.j (c.loop-b.b * h)) g.axes.temperature_step

pub nonzero_div-multiplier : goal.nonzero_div-multiplier
nonzero_div-multiplier c = omega (arith, c.args.problem.now.frame.bounded.temperature_step.low)

pub overflow_mul-b : goal.overflow_mul-b
overflow_mul-b c = omega (arith, warm_small c.args.problem.now.framed.axes c.requires.whole c.loop-b-test.true)

pub next_job-after-requires : goal.next_job-after-requires
next_job-after-requires c =
    let a = c.requires in
    let g = c.args.problem.now.framed in
    let ok = g.axes.ranges in
    let z = c.fresh-run.ensures in
    rests g.stored _ _ ok (omega (arith, ap (λ (q : State). q.done) z, a.job, ok.jobs.high)) (omega (arith, ap (λ (q : State). q.level) z, a.level, ok.levels.high)) (omega (arith, a.level, ok.levels.high)) (omega (arith, ap (λ (q : State). q.time) z)) (omega (arith, ap (λ (q : State). q.energy) z)) (omega (arith, ap (λ (q : State). q.temperature) z, warm_small g.axes a.whole c.loop-b-test.true))

pub cell_of-requires : goal.cell_of-requires
cell_of-requires c = refl

pub loop-b-preserved : goal.loop-b-preserved
loop-b-preserved c =
    let l = c.loop-b in
    let z = spans_more l.invariant c.loop-b-test.true (omega arith) _ (cell_is c.args.problem.now.framed.axes _ _ _ _ _ (warms c) c.cell_of.ensures) in
    rw (zero-add l.b) at z

pub returns : goal.returns
returns c =
    let z = c.loop-b.invariant in
    let e = c.requires.whole in
    tabulated _ _ _ (z.long ∙ e) (λ k h. let w = z.inside k (omega (arith, h, e, c.loop-b-test.false)) in rw (zero-add k) at w)
