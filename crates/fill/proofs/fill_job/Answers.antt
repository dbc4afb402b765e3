-- A job's words are filled: what follows it and its moves meet what the word loops rest on, and these leave its words (`Jobs`).
use Prim.Native.Nat.{suc}
use native.Mathlib.Omega.{arith}
use Rattle.table.specs.Problem.{sheet_for}
use Rattle.table.proofs.Cells.{cells_small}
use Rattle.table.proofs.Places.{base_start, base_mono, cells_by, start_is}
use Rattle.fill.proofs.Filling.{filled_holds}
use Rattle.fill.proofs.Jobs.{moving_by, room_by, lows_by, filled_by}
use Rattle.fill.proofs.fill_job.Goals as goal

pub overflow_mul-cells : goal.overflow_mul-cells
overflow_mul-cells c = let g = c.args.problem.now.framed.axes in omega (arith, cells_by g, cells_small g)

pub overflow_mul-at-2 : goal.overflow_mul-at-2
overflow_mul-at-2 c =
    let g = c.args.problem.now.framed.axes in
    let i = c.args.i in
    omega (arith, start_is g i, c.requires.next.most, base_mono (sheet_for c.args.problem.now) i (suc i) (omega arith), g.allowed)

pub expand_job-requires : goal.expand_job-requires
expand_job-requires c =
    let a = c.requires in
    record { room = a.room; job = a.job; next = filled_holds _ (omega (arith, base_start (sheet_for c.args.problem.now) (suc c.args.i))) a.next }

pub invariant_of-layer : goal.invariant_of-layer
invariant_of-layer c =
    let a = c.requires in
    let g = c.args.problem.now.framed.axes in
    let i = c.args.i in
    let m = c.find_moves.ensures in
    record {
      moving = moving_by _ g.ranges i a.job m g.levels (cells_by g) (start_is g i);
      small = omega (arith, room_by _ g.ranges i a.job m g.levels (cells_by g) (start_is g i), g.allowed);
    }

pub relax_words-requires : goal.relax_words-requires
relax_words-requires c =
    let a = c.requires in
    let g = c.args.problem.now.framed.axes in
    let i = c.args.i in
    let m = c.find_moves.ensures in
    let x = c.expand_job.ensures in
    record {
      inside = omega (arith, room_by _ g.ranges i a.job m g.levels (cells_by g) (start_is g i), a.room, x.kept.long);
      lows = record { low = lows_by _ g.ranges i a.job m g.levels (cells_by g) (start_is g i) x };
    }

pub returns : goal.returns
returns c =
    let a = c.requires in
    let g = c.args.problem.now.framed.axes in
    filled_by _ g.ranges c.args.i a.job c.find_moves.ensures g.levels (cells_by g) (start_is g c.args.i) c.expand_job.ensures a.next c.relax_words.ensures
