-- `read_number` gives what the definition says of the field: the number that the text starts with, where the field ends behind it.
use mathlib.Core.Logic.{inl, inr}
use native.Mathlib.Omega.{arith}
use Rattle.numbers.proofs.Digits.{number_size, field_other, field_open, field_found, next_other, next_found}
use Rattle.text.proofs.Text.{before_le, length_until}
use Rattle.numbers.proofs.read_number.Goals.{else-digits-t-via-then-digits-t+else-t-digits-ne-TAB, else-digits-t-via-else-digits-t}
use Rattle.numbers.proofs.read_number.Goals as goal

pub returns-in_err-value : goal.returns-in_err-value
returns-in_err-value c =
    let t = c.args.t.now in
    rw c.from_residual.ensures (next_other t (λ a.
    field_other 9 (omega arith) _ t c.in_err-value.ensures a (omega (arith, number_size _ a, c.min.ensures, length_until 9 t, before_le 9 t))))

pub returns-then-t-digits-ne-TAB : goal.returns-then-t-digits-ne-TAB
returns-then-t-digits-ne-TAB c =
    let t = c.args.t.now in
    next_other t (λ a.
    field_open 9 (omega arith) _ t _ _ c.in_ok-value.ensures c.if-digits-t.true c.if-t-digits-ne-TAB.true a
    (omega (arith, number_size _ a, c.min.ensures, length_until 9 t, before_le 9 t)))

pub returns : goal.returns
returns c =
    let t = c.args.t.now in
    next_found t _ _ (field_found 9 (omega arith) _ t _ _ c.in_ok-value.ensures (elim c.else-digits-t.branch [
      | else-digits-t-via-then-digits-t+else-t-digits-ne-TAB w ↦ inr w.if-t-digits-ne-TAB.false
      | else-digits-t-via-else-digits-t w ↦ inl w.if-digits-t.false
    ])) _ c.behind.ensures
