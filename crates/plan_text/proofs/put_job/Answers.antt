-- The Q line is that of the name that stands in the J line, by the contract of the name.
use mathlib.Core.Path.{ap}
use native.Mathlib.Omega.{arith}
use lib.ListN.{length}
use Rattle.plan_text.proofs.Writing.{named_line}
use Rattle.plan_text.proofs.put_job.Goals as goal

pub put_job_line-requires : goal.put_job_line-requires
put_job_line-requires c =
    let a = c in
    let w = a.requires in
    (omega (arith, a.well_formed), omega (arith, w), omega (arith, w), omega (arith, w), omega (arith, ap length c.name_on-name.ensures, w.name), w.room)

pub returns : goal.returns
returns c = let v = c.put_job_line.ensures in
    record { wrote = named_line _ _ _ _ _ _ _ _ c.name_on-name.ensures v.wrote; upper_bound = v.upper_bound }
