-- `take_number` takes what the definition takes: the number that the first 8 bytes start with, where `stop` ends it and the range holds it.
use mathlib.Core.Path.{sym, ◌∙◌}
use Prim.Native.Nat.{◌<◌}
use native.Mathlib.Omega.{arith}
use lib.ListN.{length}
use Rattle.numbers.proofs.Digits.{found_few}
use Rattle.fast_fields.proofs.Number.{take_none, take_open, take_out, take_digits}
use Rattle.fast_fields.proofs.take_number.Goals.{then-t-digits-via-then-t-digits, then-t-digits-via-else-t-digits+then-not-contains}
use Rattle.fast_fields.proofs.take_number.Goals as goal

pub returns-in_err-value : goal.returns-in_err-value
returns-in_err-value c = c.from_residual.ensures ∙ sym (take_none _ c.requires.1 _ _ c.in_err-value.ensures)

pub bounds-t-digits : goal.bounds-t-digits
bounds-t-digits c = omega (arith, c.requires.0, found_few c.args.stop c.requires.1 8 c.args.t.now _ _ c.in_ok-value.ensures)

pub returns-then-t-digits : goal.returns-then-t-digits
returns-then-t-digits c =
    let low = c.requires.1 in
    let e = c.in_ok-value.ensures in
    let h : c.in_ok-value.digits < length c.args.t.now = omega (arith, c.requires.0, found_few c.args.stop low 8 c.args.t.now _ _ e) in
    elim c.then-t-digits.branch [
      | then-t-digits-via-then-t-digits w ↦ sym (take_open _ low _ _ _ _ e h w.if-t-digits.true)
      | then-t-digits-via-else-t-digits+then-not-contains w ↦
          sym (take_out _ low _ _ _ _ e h w.if-t-digits.false (sym w.contains.ensures.whole ∙ w.if-not-contains.true))
    ]

pub returns : goal.returns
returns c =
    let low = c.requires.1 in
    let e = c.in_ok-value.ensures in
    let h : c.in_ok-value.digits < length c.args.t.now = omega (arith, c.requires.0, found_few c.args.stop low 8 c.args.t.now _ _ e) in
    sym (take_digits _ low _ _ _ _ e h c.if-t-digits.false (sym c.contains.ensures.whole ∙ c.if-not-contains.false))
