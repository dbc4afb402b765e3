-- `read_numbers` gives what the definition says: what is read stands in front of the numbers that are left.
use mathlib.Core.Path.{◌≡◌, sym, ◌∙◌}
use native.Mathlib.Omega.{arith}
use lib.ListN.{length, length-replicate}
use borrow.Author.Rules.{rules}
use Rattle.fields.proofs.Fields.{reading_none, reading_all, reading_form, reading_out, reading_on}
use Rattle.fields.proofs.read_numbers.Goals as goal

pub loop-j-init : goal.loop-j-init
loop-j-init g c =
    let l : length c.args.ranges ≡ g.row.N = search rules in
    reading_none _ _ _ _ (length-replicate g.row.N 0 ∙ sym l)

pub returns-in_default : goal.returns-in_default
returns-in_default g c =
    let l : length c.args.ranges ≡ g.row.N = search rules in
    reading_form c.loop-j.invariant (omega (arith, l, c.loop-j-test.true)) c.in_default.ensures

pub returns-then-not-contains : goal.returns-then-not-contains
returns-then-not-contains g c =
    let l : length c.args.ranges ≡ g.row.N = search rules in
    reading_out c.loop-j.invariant (omega (arith, l, c.loop-j-test.true)) _ _ c.in-Some.ensures (sym c.contains.ensures.whole ∙ c.if-not-contains.true)

pub overflow_cast-values : goal.overflow_cast-values
overflow_cast-values g c = let h = c.contains.ensures.small c.if-not-contains.false in omega (arith, h)

pub loop-j-preserved : goal.loop-j-preserved
loop-j-preserved g c =
    let l : length c.args.ranges ≡ g.row.N = search rules in
    reading_on c.loop-j.invariant (omega (arith, l, c.loop-j-test.true)) _ _ c.in-Some.ensures (sym c.contains.ensures.whole ∙ c.if-not-contains.false)

pub returns : goal.returns
returns g c =
    let l : length c.args.ranges ≡ g.row.N = search rules in
    reading_all c.loop-j.invariant (omega (arith, l, c.loop-j-test.false))
