-- The text is the P line of the list's run, by the contract of the step, and then the Q lines that `put_jobs` writes.
use mathlib.Core.Path.{◌≡◌, refl}
use Prim.Native.Nat.{◌+◌}
use native.Mathlib.Omega.{arith}
use lib.ListN.{length, take}
use lib.Seq.{length-take-le}
use Rattle.frame.specs.Run.{start, exact_run}
use Rattle.store.specs.Figures.{sheet_of}
use Rattle.store.specs.Sheet.{sheet_read}
use Rattle.run.specs.Run.{state_of}
use Rattle.run.proofs.Small.{Small, small_start, small_run}
use Rattle.step.proofs.Levels.{begun_start}
use Rattle.writer.proofs.Written.{moved, given_back}
use Rattle.plan_text.proofs.Writing.{jobs_most, job_here, level_here, whole_text}
use mathlib.Core.List.{List}
use Prim.Native.Nat.{ℕ}
use Rattle.frame.specs.Sheet.{Sheet, Ranges}
use Rattle.run.specs.declared.Run.{Run}
use borrow.Author.Rules.{rules}
use Rattle.plan_text.proofs.put_plan.Goals as goal

-- The list's run.
ran : (s : Sheet) (n : ℕ) (levels : List ℕ) {first last : Run} → state_of first ≡ start s → state_of last ≡ exact_run s (state_of first) (take n levels) →
    state_of last ≡ exact_run s (start s) (take n levels)
ran s n levels e r = rw e at r

-- How large its figures are.
small : {s : Sheet} → Ranges s → (js : List ℕ) (last : Run) → state_of last ≡ exact_run s (start s) js → Small (0 + length js) (state_of last)
small r js last e = rw e (small_run r js 0 _ (small_start r))

pub run_levels-last-requires : goal.run_levels-last-requires
unfolding sheet_of
run_levels-last-requires c =
    let w = c.requires.handed in
    record {
      begun = begun_start _ c.args.sheet.ranges c.of-figures.ensures.stored (c.start_of-first.ensures c.args.sheet.store.now) (omega (arith, length-take-le c.args.sheet.head.jobs c.args.levels.now w.each, jobs_most w));
      below = λ i k. rw (level_here w (job_here w k)) (w.below i (job_here w k));
    }

pub put_plan_line-requires : goal.put_plan_line-requires
put_plan_line-requires c =
    let a = c in
    let v = small c.args.sheet.ranges (take c.args.sheet.head.jobs c.args.levels.now) c.run_levels-last.result (ran (sheet_read c.args.sheet) c.args.sheet.head.jobs c.args.levels.now (c.start_of-first.ensures c.args.sheet.store.now) (c.run_levels-last.ensures (sheet_read c.args.sheet) c.args.sheet.ranges c.of-figures.ensures.stored)) in
    let m = jobs_most a.requires.handed in
    let l = length-take-le a.args.sheet.head.jobs a.args.levels.now a.requires.handed.each in
    (omega (arith, m), omega (arith, v.time, l, m), omega (arith, v.energy, l, m), omega (arith, v.temperature), omega (arith, a.requires.room))

pub put_jobs-requires : goal.put_jobs-requires
put_jobs-requires c =
    let v = c.put_plan_line.ensures in
    record { handed = c.requires.handed; stored = c.of-figures.ensures.stored; room = omega (arith, v.upper_bound, jobs_most c.requires.handed, c.requires.room, moved v.wrote) }

pub returns-clause-wrote : goal.returns-clause-wrote
unfolding sheet_of
returns-clause-wrote c =
    let w = whole_text _ _ _ _ _ _ _ _ refl (ran (sheet_read c.args.sheet) c.args.sheet.head.jobs c.args.levels.now (c.start_of-first.ensures c.args.sheet.store.now) (c.run_levels-last.ensures (sheet_read c.args.sheet) c.args.sheet.ranges c.of-figures.ensures.stored)) c.put_plan_line.ensures.wrote c.put_jobs.ensures.wrote in
    given_back w (search rules)

pub returns-clause-upper_bound : goal.returns-clause-upper_bound
returns-clause-upper_bound c = omega (arith, c.put_plan_line.ensures.upper_bound, c.put_jobs.ensures.upper_bound, jobs_most c.requires.handed)
