-- Where a move leads, and one move more in the least.
-- Assumes nothing.
use mathlib.Core.Path.{◌≡◌}
use mathlib.Core.List.{List}
use Prim.Native.Nat.{ℕ, suc, ◌+◌, ◌*◌, ◌≤◌, ◌<◌, min}
use lib.ListN.{get_or}
use borrow.Author.Tests.{lt-ltb, le-ltb}
use Rattle.open_ways.specs.declared.Move.{Move}
use Rattle.open_ways.specs.Moves.{move_at, relaxed_at}

module _ (moves : List (List Move)) (table : List ℕ) (cells at p : ℕ) where
  abbrev least : ℕ → ℕ → ℕ
  least = relaxed_at moves table cells at p

  -- A word for which the move is lawful, and one for which it is not.
  pub relaxed_on : (k y : ℕ) → let m = move_at moves p k in
      y < m.reach → least (suc k) y ≡ min (least k y) (m.time + get_or table (at + k * cells + (y + m.shift)) 0)
  unfolding relaxed_at
  relaxed_on k y h = simp (lt-ltb _ _ h)

  pub relaxed_off : (k y : ℕ) → (move_at moves p k).reach ≤ y → least (suc k) y ≡ least k y
  unfolding relaxed_at
  relaxed_off k y h = simp (le-ltb _ _ h)
