-- `read_head` reads the numbers that the definition names: m and l, and then the others, the start level's range by l.
use mathlib.Core.Path.{sym}
use Rattle.std.proofs.lemmas.Result.{err_from_is_err_and}
use Rattle.head.proofs.Head.{head_shape, counts_fault, others_fault, head_whole}
use Rattle.head.proofs.read_head.Goals as goal

pub returns-then-not-opens_with : goal.returns-then-not-opens_with
returns-then-not-opens_with c = head_shape _ _ (sym c.if-not-opens_with.ensures)

pub returns-in_err-counts : goal.returns-in_err-counts
returns-in_err-counts c =
    let p = err_from_is_err_and c.from_residual.result c.from_residual.ensures.1 in
    rw (p.1, p.2) (counts_fault _ _ (sym c.if-not-opens_with.ensures) _ (rw c.behind.ensures at (sym c.in_err-counts.ensures)))

pub returns-in_err-others : goal.returns-in_err-others
returns-in_err-others c =
    let p = err_from_is_err_and c.from_residual-in_err-others.result c.from_residual-in_err-others.ensures.1 in
    rw (p.1, p.2)
    (others_fault _ _ (sym c.if-not-opens_with.ensures) _ (rw c.behind.ensures at (sym c.in_ok-counts.ensures)) _ c.saturating_sub.ensures _ (sym c.in_err-others.ensures))

pub returns : goal.returns
returns c =
    rw c.head_of.ensures
    (head_whole _ _ (sym c.if-not-opens_with.ensures) _ (rw c.behind.ensures at (sym c.in_ok-counts.ensures)) _ c.saturating_sub.ensures _ (sym c.in_ok-others.ensures))
