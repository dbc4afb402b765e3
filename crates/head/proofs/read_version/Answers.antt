-- `read_version` reads the line of letter V and one number that the definition names, by the contract of `read_fields`.
use mathlib.Core.Path.{refl, sym}
use Rattle.std.proofs.lemmas.Result.{err_from_is_err_and}
use Rattle.head.specs.Head.{version_fields}
use Rattle.head.proofs.read_version.Goals as goal

pub returns-in_err-version : goal.returns-in_err-version
unfolding version_fields
returns-in_err-version c =
    let p = err_from_is_err_and c.from_residual.result c.from_residual.ensures.1 in
    let e = sym c.in_err-version.ensures in
    rw (p.1, p.2, e) refl

pub returns : goal.returns
unfolding version_fields
returns c = let e = sym c.in_ok-version.ensures in rw e refl
