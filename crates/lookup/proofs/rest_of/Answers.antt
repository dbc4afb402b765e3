-- The word is that of the run's cell, and 0 after the last job: the two cases of the definition.
use mathlib.Core.Path.{sym, ap, ◌∙◌}
use Prim.Native.Nat.{ℕ}
use lib.ListN.{get_or}
use Rattle.lookup.proofs.Lookup.{rest_word, rest_none}
use Rattle.lookup.proofs.rest_of.Goals as goal

pub returns-then-b-axes : goal.returns-then-b-axes
returns-then-b-axes c =
    let a = c.args in
    ap (λ (k : ℕ). get_or a.table.now k 0) c.place_of-k.ensures ∙ sym (rest_word a.axes a.table.now a.b c.if-b-axes.true)

pub returns-else-b-axes : goal.returns-else-b-axes
returns-else-b-axes c = sym (rest_none _ _ _ c.if-b-axes.false)
