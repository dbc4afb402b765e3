-- Span by span: the ways that are open to it make its words, and they are what the definition says of all moves.
use mathlib.Core.Path.{◌≡◌}
use Prim.Native.Nat.{ℕ, ◌+◌, ◌-◌, ◌≤◌, ◌<◌}
use lib.ListN.{get_or}
use Rattle.word.specs.Word.{settled}
use Rattle.open_ways.specs.Layer.{relaxed}
use Rattle.one_level.proofs.relax_level.Given as goal

abbrev pub invariant-loop-y : goal.invariant-loop-y
invariant-loop-y l =
    record {
      low : l.x ≤ l.y;
      most : l.y ≤ l.end;
      done : (q : ℕ) → q < l.y - l.x → get_or l.words q 0 ≡ settled (relaxed l.layer l.table l.p (l.x + q));
    }

abbrev pub decreases-loop-y : goal.decreases-loop-y
decreases-loop-y l = l.end - l.y
