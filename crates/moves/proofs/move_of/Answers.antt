-- The move is the definition's: none where no cell has the energy, and else the two quotients times the axis's width.
use mathlib.Core.Path.{◌≡◌, ap, ◌∙◌}
use Prim.Native.Nat.{◌*◌, ◌≤◌}
use native.Mathlib.Omega.{arith}
use Rattle.frame.specs.Run.{State, step}
use Rattle.table.specs.Problem.{sheet_for}
use Rattle.run.specs.Run.{state_of}
use Rattle.step.proofs.Store.{rests}
use Rattle.table.proofs.Frames.{columns_most}
use Rattle.moves.specs.Moves.{moved, move_of}
use Rattle.moves.proofs.Reach.{moved_time}
use Rattle.moves.proofs.Figures.{move_none, move_some, move_small}
use Prim.Native.Nat.{ℕ, ◌-◌, ◌+◌, ◌/◌}
use Rattle.thermal.specs.Rounding.{ceil_div}
use Rattle.table.specs.declared.axes.Frame.{Frame}
use Rattle.table.specs.Table.{Axes}
use Rattle.frame.specs.Sheet.{Sheet}
use Rattle.frame.specs.Run.{fresh}
use Rattle.run.specs.declared.Run.{Run}
use Rattle.moves.proofs.move_of.Goals as goal

-- The run after the job is the move, by the definitions.
moves : (s : Sheet) (i p j : ℕ) {q r : Run} → state_of r ≡ step s (state_of q) j → state_of q ≡ fresh i p 0 0 → state_of r ≡ moved s i p j
moves s i p j e z = e ∙ ap (λ (q : State). step s q j) z

-- Where the run is within the energy budget, the two counts and its time make the move.
some_move : {s : Sheet} {f : Frame} → Axes s f → (i p j : ℕ) (r : Run) → state_of r ≡ moved s i p j → r.energy ≤ f.head.energy_budget → (up rows : ℕ) →
    up ≡ ceil_div r.energy f.head.energy_step → rows ≡ (f.head.energy_budget - r.energy) / f.head.energy_step + 1 →
    record { shift = up * f.temperature_cells; reach = rows * f.temperature_cells; time = r.time } ≡ move_of s i p j
some_move g i p j r m l up rows u v = move_some g i p j _ _ (ap (λ (q : State). q.energy) m) (ap (λ (q : State). q.time) m) l up rows u v

pub next_job-b-requires : goal.next_job-b-requires
next_job-b-requires c =
    let a = c.requires in
    let f = c.args.problem.now.framed in
    let ok = f.axes.ranges in
    let z = c.fresh.ensures in
    rests f.stored _ _ ok (omega (arith, ap (λ (q : State). q.done) z, a.job, ok.jobs.high)) (omega (arith, ap (λ (q : State). q.level) z, a.left, ok.levels.high)) (omega (arith, a.entered, ok.levels.high)) (omega (arith, ap (λ (q : State). q.time) z)) (omega (arith, ap (λ (q : State). q.energy) z)) (omega (arith, ap (λ (q : State). q.temperature) z))

pub overflow_cast-time : goal.overflow_cast-time
overflow_cast-time c =
    let m = moves (sheet_for c.args.problem.now) c.args.i c.args.p c.args.j (c.next_job-b.ensures _ c.args.problem.now.framed.stored) c.fresh.ensures in
    omega (arith, ap (λ (q : State). q.time) m, moved_time _ c.args.problem.now.framed.axes.ranges c.args.i c.args.p c.args.j)

pub returns-then-f-b : goal.returns-then-f-b
returns-then-f-b c =
    let m = moves (sheet_for c.args.problem.now) c.args.i c.args.p c.args.j (c.next_job-b.ensures _ c.args.problem.now.framed.stored) c.fresh.ensures in
    move_none c.args.problem.now.framed.axes _ _ _ _ _ (ap (λ (q : State). q.energy) m) (ap (λ (q : State). q.time) m) c.if-f-b.true

pub overflow_cast-width : goal.overflow_cast-width
overflow_cast-width c = omega (arith, columns_most c.args.problem.now.frame)

pub lawful_rows-rows-requires : goal.lawful_rows-rows-requires
lawful_rows-rows-requires c = record { enough = c.if-f-b.false; raised = c.energy_cell-up.ensures }

pub overflow_mul-shift : goal.overflow_mul-shift
overflow_mul-shift c =
    let m = moves (sheet_for c.args.problem.now) c.args.i c.args.p c.args.j (c.next_job-b.ensures _ c.args.problem.now.framed.stored) c.fresh.ensures in
    let w = some_move c.args.problem.now.framed.axes c.args.i c.args.p c.args.j _ m c.if-f-b.false _ _ c.energy_cell-up.ensures c.lawful_rows-rows.ensures in
    omega (arith, move_small c.args.problem.now.framed.axes c.args.i c.args.p c.args.j _ w)

pub overflow_mul-reach : goal.overflow_mul-reach
overflow_mul-reach c =
    let m = moves (sheet_for c.args.problem.now) c.args.i c.args.p c.args.j (c.next_job-b.ensures _ c.args.problem.now.framed.stored) c.fresh.ensures in
    let w = some_move c.args.problem.now.framed.axes c.args.i c.args.p c.args.j _ m c.if-f-b.false _ _ c.energy_cell-up.ensures c.lawful_rows-rows.ensures in
    omega (arith, move_small c.args.problem.now.framed.axes c.args.i c.args.p c.args.j _ w)

pub returns : goal.returns
returns c =
    let m = moves (sheet_for c.args.problem.now) c.args.i c.args.p c.args.j (c.next_job-b.ensures _ c.args.problem.now.framed.stored) c.fresh.ensures in
    let w = some_move c.args.problem.now.framed.axes c.args.i c.args.p c.args.j _ m c.if-f-b.false _ _ c.energy_cell-up.ensures c.lawful_rows-rows.ensures in
    w
