-- `leading_number` gives what the definition says: `Digits` holds of the digits that are read, and each way out is one of its laws.
use mathlib.Core.Path.{◌≡◌, refl}
use mathlib.Core.Logic.{inl, inr}
use mathlib.Core.List.{[]}
use native.Mathlib.Omega.{arith}
use lib.ListN.{drop}
use borrow.Author.Rules.{rules}
use Rattle.numbers.specs.Number.{leading_digits}
use Rattle.numbers.proofs.Digits.{digits_none, digits_value, digits_zero, digits_more, digits_empty, digits_found, digits_stop, digits_end}
use Rattle.numbers.proofs.leading_number.Goals.{else-loop-b-test, then-loop-b-test+then-not-is_ascii_digit, else-digits-gt1-via-then-digits-gt1+else-t-eq48, else-digits-gt1-via-else-digits-gt1}
use Rattle.numbers.proofs.leading_number.Goals as goal

pub loop-b-init : goal.loop-b-init
loop-b-init c = (digits_none _, refl)

pub overflow_mul-value : goal.overflow_mul-value
overflow_mul-value c = let z = c.loop-b.invariant.0 in omega (arith, c.requires, z.within, digits_value z 10 (omega (arith, c.requires, z.within)))

pub overflow_add-value : goal.overflow_add-value
overflow_add-value c = let z = c.loop-b.invariant.0 in omega (arith, c.requires, z.within, digits_value z 10 (omega (arith, c.requires, z.within)))

pub loop-b-preserved : goal.loop-b-preserved
loop-b-preserved c =
    let e = c.loop-b.invariant.1 in
    let d = c.if-not-is_ascii_digit.ensures.cases in
    (digits_more c.loop-b.invariant.0 (search rules) d.0 d.1, omega (arith, e))

pub returns-then-digits-eq0 : goal.returns-then-digits-eq0
returns-then-digits-eq0 c =
    let e : leading_digits (drop c.loop-b.b-index c.args.t.now) ≡ [] = elim c.loop-b-test.branch [
      | else-loop-b-test w ↦ digits_end c.args.t.now c.loop-b.b-index (search rules)
      | then-loop-b-test+then-not-is_ascii_digit w ↦ digits_stop c.args.t.now c.loop-b.b-index (search rules) w.if-not-is_ascii_digit.ensures.cases
    ] in
    digits_empty c.loop-b.invariant.0 e (omega (arith, c.loop-b.invariant.1, c.if-digits-eq0.true))

pub returns-then-t-eq48 : goal.returns-then-t-eq48
returns-then-t-eq48 c = digits_zero c.loop-b.invariant.0 (omega (arith, c.loop-b.invariant.1, c.if-digits-gt1.true)) c.if-t-eq48.true

pub returns : goal.returns
returns c =
    let z = c.loop-b.invariant.0 in
    let q = c.loop-b.invariant.1 in
    let e : leading_digits (drop c.loop-b.b-index c.args.t.now) ≡ [] = elim c.loop-b-test.branch [
      | else-loop-b-test w ↦ digits_end c.args.t.now c.loop-b.b-index (search rules)
      | then-loop-b-test+then-not-is_ascii_digit w ↦ digits_stop c.args.t.now c.loop-b.b-index (search rules) w.if-not-is_ascii_digit.ensures.cases
    ] in
    rw q (digits_found z e (omega (arith, q, c.if-digits-eq0.false)) (omega (arith, c.requires, z.within))
    (elim c.else-digits-gt1.branch [
      | else-digits-gt1-via-then-digits-gt1+else-t-eq48 w ↦ inr w.if-t-eq48.false
      | else-digits-gt1-via-else-digits-gt1 w ↦ inl (omega (arith, q, w.if-digits-gt1.false))
    ]))
