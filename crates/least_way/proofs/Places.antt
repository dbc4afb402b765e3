-- The least by places: by none, by one more, and by as many as there are ways, or more.
-- Assumes nothing.
use mathlib.Core.Path.{◌≡◌, refl, ap, ap₂}
use mathlib.Core.List.{List}
use Prim.Native.Nat.{ℕ, zero, suc, ◌+◌, ◌-◌, ◌≤◌, ◌<◌, min}
use native.Mathlib.Decide.{dec_lt}
use native.Mathlib.Omega.{arith}
use lib.ListN.{length}
use borrow.Author.Tests.{le-ltb}
use Rattle.word.specs.Word.{far, no_way, sum_max, settled}
use Rattle.one_way.specs.declared.Way.{Way}
use Rattle.one_way.specs.Way.{by_way, slot_of}
use Rattle.one_way.proofs.Slots.{slot_own, slot_first}
use Rattle.least_way.specs.Least.{least_by, least_in, TimeOf}

-- A time from `far` on is no time.
pub settled_as : {m r : ℕ} → TimeOf m r → settled r ≡ settled m
settled_as {m} {r} u =
    elim (dec_lt r far) [
      | yes l ↦ let z : m ≡ r = omega (arith, u.is) in rw z refl
      | no l ↦ let z : m ≡ far = omega (arith, u.is) in rw z (simp (le-ltb r far (omega arith)))
    ]

module _ (table : List ℕ) (ways : List Way) (q : ℕ) where
  abbrev count : ℕ
  count = length ways

  abbrev by : ℕ → ℕ
  by k = by_way table ways k q

  abbrev least : ℕ → ℕ
  least k = least_by table ways k q

  abbrev within : ℕ → ℕ
  within n = least_in table ways n q

  least_le : (k j : ℕ) → j < k → least k ≤ by j
  unfolding least_by
  least_le zero j h = absurd (omega arith)
  least_le (suc k) j h =
      elim (dec_lt j k) [
        | yes l ↦ omega (arith, least_le k j l)
        | no l ↦ let z : j ≡ k = omega arith in rw z (omega arith)
      ]

  -- No way is open.
  pub none_open : settled (least 0) ≡ no_way
  unfolding least_by
  none_open = refl

  -- By the first place alone, and by one more.
  pub one_place : (r : ℕ) → r ≡ by (slot_of count 0) → r ≤ sum_max → TimeOf (within 1) r
  unfolding least_in
  one_place r e h = record { is = rw e refl; small = h }

  pub place_more : {a b : ℕ} (n r : ℕ) → TimeOf (within n) a → b ≡ by (slot_of count n) → r ≡ min a b → TimeOf (within (n + 1)) r
  unfolding least_in
  place_more n r u e m = let z : n + 1 ≡ suc n = omega arith in rw z (record { is = omega (arith, u.is, e, m); small = omega (arith, u.small, m) })

  -- By as many places as there are ways, and by more: the first way again leaves the least as it is.
  within_own : (k : ℕ) → k ≤ count → within k ≡ least k
  unfolding least_in least_by
  within_own zero h = refl
  within_own (suc k) h = ap₂ (λ (a b : ℕ). min a b) (within_own k (omega arith)) (ap by (slot_own count k (omega arith)))

  within_more : (d : ℕ) → 1 ≤ count → within (d + count) ≡ least count
  unfolding least_in
  within_more zero h = let z : 0 + count ≡ count = omega arith in rw z (within_own count (omega arith))
  within_more (suc d) h =
      let z : suc d + count ≡ suc (d + count) = omega arith in
      rw z (rw (within_more d h, slot_first count (d + count) (omega arith)) (omega (arith, least_le count 0 h)))

  pub all_ways : (n : ℕ) → 1 ≤ count → count ≤ n → within n ≡ least count
  all_ways n h l = let z : n ≡ (n - count) + count = omega arith in rw z (within_more (n - count) h)
