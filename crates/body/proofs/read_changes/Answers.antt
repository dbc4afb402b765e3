-- `read_changes` reads what the definition reads, by an invariant of the levels left whose S lines are read (`PartsLeft`).
use borrow.Author.Rules.{rules}
use mathlib.Core.Path.{refl, sym}
use Rattle.std.proofs.lemmas.Result.{err_from_is_err_and}
use Rattle.body.specs.Body.{changes_from}
use Rattle.body.proofs.Body.{parts_all, parts_stop, parts_on}
use Rattle.body.proofs.read_changes.Goals as goal

pub returns-in_err-place : goal.returns-in_err-place
unfolding changes_from
returns-in_err-place c =
    let p = err_from_is_err_and c.from_residual.result c.from_residual.ensures.1 in
    rw (p.1, p.2) (parts_stop c.loop-p.invariant (search rules) refl c.in_err-place.ensures)

pub loop-p-preserved : goal.loop-p-preserved
unfolding changes_from
loop-p-preserved c = parts_on c.loop-p.invariant (search rules) refl c.in_ok-place.ensures

pub returns : goal.returns
unfolding changes_from
returns c = sym (parts_all c.loop-p.invariant (search rules))
