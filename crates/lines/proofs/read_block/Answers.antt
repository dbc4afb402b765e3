-- `read_block` reads what the definition says: behind the lines that `take_lines` took, and behind each line read, the lines that are
-- left are those that the definition reads next.
use mathlib.Core.Path.{sym, ◌∙◌}
use native.Mathlib.Omega.{arith}
use Rattle.std.proofs.Common.{of_calls}
use Rattle.std.proofs.lemmas.Result.{err_from_is_err_and}
use Rattle.reading.proofs.Next.{line_read}
use Rattle.reading.proofs.Rest.{read_by}
use Rattle.line_kinds.specs.Figures.{fields_for}
use Rattle.line_kinds.proofs.Figures.{entry_places, places_most}
use Rattle.lines.proofs.Lines.{block_all, block_stop, block_on, block_taken}
use Rattle.lines.proofs.read_block.Goals as goal

pub loop-j-init : goal.loop-j-init
loop-j-init c = block_taken _ _ _ _ _ _ c.take_lines-taken.ensures

pub returns-in_err-entry : goal.returns-in_err-entry
returns-in_err-entry c =
    let e = read_by (fields_for c.args.kind c.loop-j.j-counter) _ _ c.in_err-entry.ensures (λ line said p. search of_calls) in
    let p = err_from_is_err_and c.from_residual.result c.from_residual.ensures.1 in
    rw (p.1, p.2) (sym (c.loop-j.invariant ∙ block_stop _ _ _ _ _ _ c.loop-j-test.true _ e))

pub overflow_add-base : goal.overflow_add-base
overflow_add-base c = omega (arith, places_most c.args.kind, c.requires)

pub put_entry-requires : goal.put_entry-requires
put_entry-requires c =
    let e = read_by (fields_for c.args.kind c.loop-j.j-counter) _ _ c.in_ok-entry.ensures (λ line said p. search of_calls) in
    omega (arith, entry_places _ _ _ _ (line_read _ _ _ (sym e)).says, c.requires)

pub loop-j-preserved : goal.loop-j-preserved
loop-j-preserved c =
    let e = read_by (fields_for c.args.kind c.loop-j.j-counter) _ _ c.in_ok-entry.ensures (λ line said p. search of_calls) in
    rw c.put_entry.ensures (c.loop-j.invariant ∙ block_on _ _ _ _ _ _ c.loop-j-test.true _ _ e)

pub returns : goal.returns
returns c = sym (c.loop-j.invariant ∙ block_all _ _ _ _ _ _ c.loop-j-test.false)
