-- One word more with each turn of the loop: the least by N places, sealed.
use mathlib.Core.Path.{◌≡◌}
use Prim.Native.Nat.{ℕ, ◌<◌}
use lib.ListN.{get_or}
use Rattle.word.specs.Word.{settled}
use Rattle.least_way.specs.Least.{least_in}
use Rattle.ways.proofs.by.Given as goal

abbrev pub invariant-loop-q : goal.invariant-loop-q
invariant-loop-q g l = (k : ℕ) → k < l.q → get_or l.span k 0 ≡ settled (least_in l.table l.ways g.row.N k)
