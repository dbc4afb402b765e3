-- One level's part more with each turn of the loop, until all levels have theirs.
use mathlib.Core.Path.{◌≡◌}
use mathlib.Core.List.{[]}
use Prim.Native.Nat.{ℕ, ◌+◌, ◌<◌}
use lib.ListN.{get_or, take}
use Rattle.frame.specs.Table.{tabulate}
use Rattle.word.specs.Word.{settled}
use Rattle.open_ways.specs.Layer.{relaxed}
use Rattle.relax.proofs.relax_part.Given as goal

abbrev pub invariant-loop-p : goal.invariant-loop-p
invariant-loop-p l = (k : ℕ) → k < l.p → take l.n (get_or l.row-items k []) ≡ tabulate (λ (q : ℕ). settled (relaxed l.layer l.table k (l.x + q))) 0 l.n
