-- A part of every level more with each turn of the loop: what is still to be read stands behind what is written, and is as it was.
use Prim.Native.Nat.{ℕ, ◌≤◌}
use Rattle.word.specs.Word.{settled}
use Rattle.open_ways.specs.Layer.{relaxed}
use Rattle.relax.specs.Levels.{Levels}
use Rattle.relax.proofs.relax_words.Given as goal

abbrev pub invariant-loop-x : goal.invariant-loop-x
invariant-loop-x l =
    record {
      most : l.x ≤ l.layer.cells;
      words : Levels l.initial.table l.table l.layer.at l.layer.levels l.layer.cells 0 l.x (λ (p y : ℕ). settled (relaxed l.layer l.initial.table p y));
    }
