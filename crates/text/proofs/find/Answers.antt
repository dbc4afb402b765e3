-- `find` stops at the first byte b: eight bytes at a time, and the last by themselves.
use mathlib.Core.Path.{sym}
use native.Mathlib.Omega.{arith}
use Rattle.text.proofs.Text.{passed_here, passed_on, passed_all}
use Rattle.text.proofs.find.Goals as goal

pub returns-in-Some-first_place : goal.returns-in-Some-first_place
returns-in-Some-first_place c =
    let e = sym c.in-Some-first_place.ensures in
    passed_here c.loop-eight.invariant _ (rw c.in-Some.ensures.cases.0 at e)

pub loop-eight-preserved : goal.loop-eight-preserved
loop-eight-preserved c =
    let e = sym c.in_default-first_place.ensures in
    let s = c.in-Some.ensures.cases in
    rw s.1 (passed_on c.loop-eight.invariant (rw s.0 at e) (omega (arith, s.2)))

pub returns : goal.returns
returns c = rw c.unwrap_or.ensures (passed_all c.loop-eight.invariant _ c.first_place-2.ensures)
