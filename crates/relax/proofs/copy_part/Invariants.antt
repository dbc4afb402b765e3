-- One level's words more with each turn of the loop, until those of all levels are written.
use mathlib.Core.List.{[]}
use Prim.Native.Nat.{ℕ, ◌+◌, ◌-◌}
use lib.ListN.{get_or}
use Rattle.relax.specs.Levels.{Levels}
use Rattle.relax.proofs.copy_part.Given as goal

abbrev pub invariant-loop-p : goal.invariant-loop-p
invariant-loop-p l = Levels l.initial.table l.table l.layer.at l.p l.layer.cells l.x (l.x + l.n) (λ (k y : ℕ). get_or (get_or l.part k []) (y - l.x) 0)
