-- The Q lines are those of the list's run, by an invariant of the lines written, the run and the next J line (`Writing`).
use native.Mathlib.Omega.{arith}
use lib.Seq.{length-take-le}
use Rattle.store.specs.Figures.{sheet_of}
use Rattle.store.specs.Sheet.{sheet_read}
use Rattle.plan_text.proofs.Writing.{levels_most, job_here, level_here, writing_start, writing_rests, writing_ended, writing_next, writing_end}
use Rattle.plan_text.proofs.put_jobs.Goals as goal

pub lines_before-requires : goal.lines_before-requires
lines_before-requires c = record { levels = levels_most c.requires.handed; jobs = omega arith }

pub loop-level-init : goal.loop-level-init
loop-level-init c =
    writing_start c.requires.handed _ _ _ _ (c.start_of-run.ensures c.args.sheet.store.now) c.lines_before.ensures c.skip_lines-rest.ensures

pub next_job-run-requires : goal.next_job-run-requires
next_job-run-requires c =
    let w = c.requires.handed in
    let l = job_here w c.loop-level-test.true in
    rw (level_here w l) (writing_rests w c.loop-level.invariant l c.requires.stored)

pub put_job-requires : goal.put_job-requires
put_job-requires c =
    let w = c.requires.handed in
    let l = job_here w c.loop-level-test.true in
    writing_ended w c.loop-level.invariant l _ (rw (level_here w l) at (c.next_job-run.ensures (sheet_read c.args.sheet) c.requires.stored)) c.requires.room

pub job_lines-requires : goal.job_lines-requires
job_lines-requires c = levels_most c.requires.handed

pub loop-level-preserved : goal.loop-level-preserved
loop-level-preserved c =
    let w = c.requires.handed in
    let l = job_here w c.loop-level-test.true in
    let v = c.put_job.ensures in
    writing_next w c.loop-level.invariant l _ (rw (level_here w l) at (c.next_job-run.ensures (sheet_read c.args.sheet) c.requires.stored)) _ _ _ v.wrote v.upper_bound c.job_lines.ensures c.skip_lines-rest-in-loop-level.ensures

pub returns : goal.returns
unfolding sheet_of
returns c =
    let w = c.requires in
    let r = writing_end w.handed c.loop-level.invariant (omega (arith, c.loop-level-test.false, length-take-le c.args.sheet.head.jobs c.args.levels.now w.handed.each)) w.room in
    record { wrote = r.0; upper_bound = r.1 }
