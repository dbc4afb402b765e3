-- A part of `width` words of a list from place `at` on: what it holds, and the list after one of its words is set.
-- Assumes nothing.
use mathlib.Core.Path.{◌≡◌, ◌∙◌}
use mathlib.Core.List.{List}
use Prim.Native.Nat.{ℕ, ◌+◌, ◌-◌, ◌≤◌, ◌<◌}
use native.Mathlib.Omega.{arith}
use lib.ListN.{length, get_or, set, take, drop, length-take, length-drop}
use lib.Seq.{get_or-take, get_or-drop}
use borrow.Rule.Slice.PartMut.{put_mid, set_mid_at}

module _ (t : List ℕ) (at width : ℕ) where
  abbrev pub part : List ℕ
  part = take (at + width - at) (drop at t)

  pub part_long : at + width ≤ length t → length part ≡ width
  part_long h = omega (arith, length-take (at + width - at) (drop at t), length-drop at t)

  pub part_at : (k : ℕ) → k < width → get_or part k 0 ≡ get_or t (at + k) 0
  part_at k h = get_or-take (at + width - at) (drop at t) k 0 (omega arith) ∙ get_or-drop at t k 0

  pub part_set : at + width ≤ length t → (k v : ℕ) → k < width → put_mid at (at + width - at) t (set part k v) ≡ set t (at + k) v
  part_set h k v l = set_mid_at at (at + width - at) k t v (omega (arith, part_long h))
