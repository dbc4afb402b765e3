-- `take_numbers` takes what the definition says: what is taken stands in front of the numbers that are left.
use mathlib.Core.Path.{◌≡◌, sym, ◌∙◌}
use Prim.Native.Nat.{suc, ◌-◌, ◌≤◌}
use native.Mathlib.Omega.{arith}
use lib.ListN.{length, length-replicate}
use borrow.Author.Rules.{rules}
use Rattle.fast_fields.proofs.Number.{taken_number}
use Rattle.fast_fields.proofs.Line.{starts_is, stop_at}
use Rattle.fast_lines.proofs.Numbers.{unstarted, taking_none, taking_all, taking_other, taking_on, stop_tab, stop_end}
use Rattle.fast_lines.proofs.take_numbers.Goals.{then-j, else-j, After-take_number}
use Rattle.fast_lines.proofs.take_numbers.Given.{Over}
use Rattle.fast_lines.proofs.take_numbers.Goals as goal

pub returns-then-not-starts_with : goal.returns-then-not-starts_with
returns-then-not-starts_with g c =
    let l : length c.args.ranges ≡ g.row.N = search rules in
    rw (← l) (sym (unstarted _ _ _ (omega (arith, l, c.requires)) (rw l (sym c.starts_with.ensures ∙ c.if-not-starts_with.true))))

pub loop-j-init : goal.loop-j-init
loop-j-init g c =
    let l : length c.args.ranges ≡ g.row.N = search rules in
    taking_none _ _ _ _ (rw l (starts_is _ _ _ (sym c.starts_with.ensures ∙ c.if-not-starts_with.false))) (search rules) (omega (arith, l, c.requires))
    c.requires.3 (length-replicate g.row.N 0 ∙ sym l)

stop_is : (g : Over) (c : After-take_number g) → c.if-j.stop ≡ stop_at (length c.args.ranges - suc c.loop-j.j)
stop_is g c =
    let l : length c.args.ranges ≡ g.row.N = search rules in
    elim c.if-j.branch [
      | then-j w ↦ w.stop-is ∙ stop_tab _ _ (omega (arith, l, w.if-j.true))
      | else-j w ↦ w.stop-is ∙ stop_end _ _ (omega (arith, l, w.if-j.false))
    ]

pub returns-in_err-value : goal.returns-in_err-value
returns-in_err-value g c =
    let l : length c.args.ranges ≡ g.row.N = search rules in
    c.from_residual.ensures ∙ rw (← l) (taking_other c.loop-j.invariant (omega (arith, l, c.loop-j-test.true)) _ (stop_is g (goal.at.returns-in_err-value g c).After-take_number) c.in_err-value.ensures)

pub overflow_add-at : goal.overflow_add-at
overflow_add-at g c = let n = (taken_number _ _ _ _ _ (sym c.in_ok-value.ensures)).few in search rules

pub overflow_add-at-in-loop-j : goal.overflow_add-at-in-loop-j
overflow_add-at-in-loop-j g c =
    let l : length c.args.ranges ≡ g.row.N = search rules in
    let n = (taken_number _ _ _ _ _ (sym c.in_ok-value.ensures)).few in
    let p : c.loop-j.at ≤ 29 = omega (arith, c.loop-j.invariant.near, c.loop-j-test.true, c.requires) in
    search rules

pub loop-j-preserved : goal.loop-j-preserved
loop-j-preserved g c =
    let l : length c.args.ranges ≡ g.row.N = search rules in
    taking_on c.loop-j.invariant (omega (arith, l, c.loop-j-test.true)) _ (stop_is g (goal.at.loop-j-preserved g c).After-take_number) _ _ c.in_ok-value.ensures

pub returns : goal.returns
returns g c =
    let l : length c.args.ranges ≡ g.row.N = search rules in
    rw (← l) (taking_all c.loop-j.invariant (omega (arith, l, c.loop-j-test.false)))
