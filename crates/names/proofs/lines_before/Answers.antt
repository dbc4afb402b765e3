-- The number of a J line: its products and sums are small, by `lines_small`.
use mathlib.Core.Path.{ap}
use Prim.Native.Nat.{ℕ, ◌+◌, ◌*◌, ◌≤◌}
use native.Mathlib.Omega.{arith}
use Rattle.store.specs.Store.{jobs_max, levels_max}
use Rattle.body.specs.Body.{job_lines}
use Rattle.names.proofs.Name.{lines_small}
use Rattle.names.proofs.lines_before.Goals as goal

pub overflow_mul-result : goal.overflow_mul-result
overflow_mul-result c = omega (arith, (lines_small c.args.l c.args.i c.requires.levels c.requires.jobs).0)

pub overflow_add-result-2 : goal.overflow_add-result-2
overflow_add-result-2 c = omega (arith, (lines_small c.args.l c.args.i c.requires.levels c.requires.jobs).0, c.requires.levels)

pub overflow_mul-result-2 : goal.overflow_mul-result-2
overflow_mul-result-2 c =
    let jobs : c.args.i * c.job_lines.result ≤ jobs_max * job_lines levels_max = rw c.job_lines.ensures (lines_small c.args.l c.args.i c.requires.levels c.requires.jobs).1 in
    omega arith

pub overflow_add-result-3 : goal.overflow_add-result-3
overflow_add-result-3 c =
    let small = lines_small c.args.l c.args.i c.requires.levels c.requires.jobs in
    let jobs : c.args.i * c.job_lines.result ≤ jobs_max * job_lines levels_max = rw c.job_lines.ensures small.1 in
    omega (arith, small.0, c.requires.levels)

pub returns : goal.returns
returns c = let l = c.args.l in ap (λ (n : ℕ). 2 + l + l * l + c.args.i * n) c.job_lines.ensures
