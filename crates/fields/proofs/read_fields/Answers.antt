-- `read_fields` gives what the definition says: the letter by `opens_with`, the numbers by `read_numbers`.
use mathlib.Core.Path.{◌≡◌, sym}
use lib.ListN.{length}
use borrow.Author.Rules.{rules}
use Rattle.fields.proofs.Fields.{fields_shape, fields_numbers}
use Rattle.fields.proofs.read_fields.Goals as goal

pub returns-then-not-opens_with : goal.returns-then-not-opens_with
returns-then-not-opens_with g c =
    let l : length c.args.ranges ≡ g.row.N = search rules in
    fields_shape _ _ _ (rw l (sym c.if-not-opens_with.ensures))

pub returns-in-Ok : goal.returns-in-Ok
returns-in-Ok g c =
    let l : length c.args.ranges ≡ g.row.N = search rules in
    fields_numbers _ _ _ (rw l (sym c.if-not-opens_with.ensures)) _ (rw c.behind.ensures at c.in-Ok.ensures)

pub returns-in-Err : goal.returns-in-Err
returns-in-Err g c =
    let l : length c.args.ranges ≡ g.row.N = search rules in
    fields_numbers _ _ _ (rw l (sym c.if-not-opens_with.ensures)) _ (rw c.behind.ensures at c.in-Err.ensures)
