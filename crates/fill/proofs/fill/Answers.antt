-- The table is filled, by an invariant of the jobs that are filled, from the last to the first (`Filling`).
use mathlib.Core.Path.{◌≡◌, sym, ap, subst, ◌∙◌}
use Prim.Native.Nat.{ℕ, ◌-◌}
use native.Mathlib.Omega.{arith}
use Rattle.table.specs.Table.{base}
use Rattle.table.specs.Problem.{sheet_for}
use Rattle.table.proofs.Places.{base_mono, base_need, base_zero}
use Rattle.fill.specs.Layer.{FilledFrom}
use Rattle.fill.proofs.Filling.{filled_none, filled_trans, filled_all}
use Rattle.fill.proofs.fill.Goals as goal

pub loop-i-init : goal.loop-i-init
loop-i-init c =
    let p = c.args.problem.now in
    let s = sheet_for p in
    let z : base s p.frame.head.jobs 0 ≡ base s s.jobs 0 = ap (λ (n : ℕ). base s n 0) p.framed.axes.jobs in
    subst (λ (k : ℕ). FilledFrom s k c.args.table.now c.args.table.now) (sym (z ∙ base_need s)) (filled_none s _)

pub loop-i-preserved : goal.loop-i-preserved
loop-i-preserved c =
    let l = c.loop-i in
    filled_trans (base_mono (sheet_for c.args.problem.now) (l.i - 1) l.i (omega arith)) l.invariant c.fill_job.ensures

pub returns : goal.returns
returns c =
    let p = c.args.problem.now in
    let l = c.loop-i in
    let s = sheet_for p in
    let z : l.i ≡ 0 = omega arith in
    filled_all s _ _ c.requires (subst (λ (k : ℕ). FilledFrom s k c.args.table.now l.table) (ap (λ (n : ℕ). base s n 0) z ∙ base_zero s) l.invariant)
