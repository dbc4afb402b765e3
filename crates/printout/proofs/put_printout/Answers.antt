-- A plan's text is the report's; else the R line of the refusal, which has room at the start of the part.
-- Assumes nothing.
use mathlib.Core.Path.{refl}
use native.Mathlib.Omega.{arith}
use borrow.Author.Rules.{rules}
use Rattle.refusal.proofs.Apart.{number_bounds}
use Rattle.writer.proofs.Written.{given_back}
use Rattle.printout.proofs.Forms.{printed_plan, printed_short, printed_line}
use Rattle.printout.proofs.put_printout.Goals as goal

pub returns-in-Ok : goal.returns-in-Ok
returns-in-Ok c =
    let w = c.in-Ok.ensures in
    record { wrote = printed_plan _ _ _ (omega arith) _ w.value w.text_after refl w.length_le_text_least; upper_bound = w.length_le_text_least }

pub put_refusal_line-requires : goal.put_refusal_line-requires
put_refusal_line-requires c =
    let w = c.in-Err.ensures in
    let h = printed_short _ _ _ (omega arith) _ w.value w.text_after (λ e. omega (arith, number_bounds c.in-Err.f)) in
    (omega (arith, h.number, c.number.ensures), omega (arith, h.line, c.line-line.ensures), omega (arith, h.field, c.field-field.ensures), omega arith)

pub returns-in-Err : goal.returns-in-Err
returns-in-Err c =
    let w = c.in-Err.ensures in
    let l = rw (c.number.ensures, c.line-line.ensures, c.field-field.ensures) at c.put_refusal_line.ensures.wrote in
    record { wrote = printed_line _ _ _ (omega arith) _ w.value w.text_after (λ e. omega (arith, number_bounds c.in-Err.f)) _ _ (given_back l (search rules)); upper_bound = omega (arith, c.put_refusal_line.ensures.upper_bound) }
