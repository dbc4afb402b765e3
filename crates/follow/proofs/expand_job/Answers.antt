-- What is laid follows the job at every level, by an invariant over the levels laid (`Keeping`).
use native.Mathlib.Omega.{arith}
use Rattle.table.specs.Problem.{sheet_for}
use Rattle.table.proofs.Places.{base_level, base_within}
use Rattle.follow.proofs.Keeping.{kept_none, kept_both, kept_wide, holds_kept, ahead_none, ahead_more, ahead_all}
use Rattle.follow.proofs.expand_job.Goals as goal

pub loop-j-init : goal.loop-j-init
loop-j-init c = record { ahead = ahead_none _ _ _; kept = kept_none _ _ _ }

pub expand_level-requires : goal.expand_level-requires
expand_level-requires c =
    let p = c.requires in
    let l = c.loop-j in
    record {
      room = omega (arith, p.room, l.invariant.kept.long);
      job = p.job;
      level = omega (arith, c.loop-j-test.true, c.args.problem.now.framed.axes.levels);
      next = holds_kept _ (omega arith) l.invariant.kept p.next;
    }

pub loop-j-preserved : goal.loop-j-preserved
loop-j-preserved c =
    let a = c.args in
    let l = c.loop-j in
    let w = c.expand_level.ensures in
    let s = sheet_for a.problem.now in
    record {
      ahead = ahead_more s l.invariant.ahead w;
      kept = kept_both l.invariant.kept (kept_wide (omega (arith, base_level s a.i l.j)) (base_within s a.i l.j (omega (arith, c.loop-j-test.true, a.problem.now.framed.axes.levels))) w.kept);
    }

pub returns : goal.returns
returns c =
    let l = c.loop-j in
    record { ahead = ahead_all l.invariant.ahead (omega (arith, c.loop-j-test.false, c.args.problem.now.framed.axes.levels)); kept = l.invariant.kept }
