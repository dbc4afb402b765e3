-- What `min_by_key` gives over the levels from 0 on is the first of the least.
-- Assumes nothing.
use mathlib.Core.Path.{◌≡◌, refl, sym, ap, ◌∙◌}
use mathlib.Core.List.{List, [], ◌∷◌, map-id}
use Prim.Native.Nat.{ℕ, zero, suc, ◌+◌, ◌-◌, ◌≤◌, ◌<◌}
use native.Mathlib.Decide.{dec_le}
use native.Mathlib.Omega.{arith}
use denote.Ref.{Bor}
use denote.Param.Members.{Mut}
use Rattle.std.proofs.Common.{nat_cmp}
use Rattle.std.proofs.iter.Yields.{nat_range_steps}
use Rattle.std.proofs.lemmas.Iterator.{YieldsList-from_range, items_from_drains}
use Rattle.std.proofs.lemmas.List.FromFn.{length-range_with_len}
use lib.ListN.{length}
use Rattle.std.specs.declared.ops.Range.{Range}
use Rattle.std.specs.declared.option.Option.{Option}
use Rattle.std.specs.declared.option.Option.TheVariants.{None, Some}
use Rattle.std.specs.Fn.{CalledAt}
use Rattle.std.specs.Iterator.{Drains, PicksMinByKey, KeyTurn}
use Rattle.std.specs.List.{FoldsTo, range_with_len}
use Rattle.std.specs.Option.{unwrap_or}
use Rattle.std.specs.Ordering.{min_by_ordering, MatchOrdering}
use Rattle.std.specs.Cmp.{ranks}
use Rattle.std.specs.declared.cmp.Ordering.{Ordering}
use Rattle.std.specs.declared.cmp.Ordering.TheVariants.{Less, Equal, Greater}
use Rattle.frame.specs.Demands.{infeasible}
use Rattle.frame.specs.Plan.{least_of, first_within}
use Rattle.table.proofs.Ways.{least_none, least_more}
use Rattle.choice.proofs.Choice.{first_none, first_less, first_kept}

-- The numbers that a range gives.
items : (s : Range ℕ) (xs : List ℕ) → Drains nat_range_steps s xs → xs ≡ range_with_len s.start (s.end - s.start)
items s xs d = sym (map-id xs) ∙ items_from_drains xs (d.1.0, d.1.1, λ _. (d.0, d.1.2)) (YieldsList-from_range s.start s.end _ refl refl)

module _ (w : ℕ → ℕ) where
  -- One level more: the lesser key, and its level, the earlier where they are equal.
  picked : (i key best k : ℕ) (o : Ordering) → key ≡ least_of i w → best ≡ first_within i w (least_of i w) → k ≡ w i → nat_cmp key k ≡ o →
      (min_by_ordering o key k ≡ least_of (i + 1) w) × (min_by_ordering o best i ≡ first_within (i + 1) w (least_of (i + 1) w))
  picked i key best k o e h v c = by o (rw c at (ranks key k))
    where
      by : (o : Ordering) → MatchOrdering o (key < k) (key ≡ k) (k < key) →
          (min_by_ordering o key k ≡ least_of (i + 1) w) × (min_by_ordering o best i ≡ first_within (i + 1) w (least_of (i + 1) w))
      by Less l = (omega (arith, least_more i w, e, v), h ∙ sym (first_kept w i (omega (arith, e, v))))
      by Equal l = (omega (arith, least_more i w, e, v), h ∙ sym (first_kept w i (omega (arith, e, v))))
      by Greater l = (omega (arith, least_more i w, e, v), sym (first_less w i (omega (arith, e, v))))

  -- The first level of all.
  begun : w 0 ≤ infeasible → (w 0 ≡ least_of 1 w) × (0 ≡ first_within 1 w (least_of 1 w))
  begun l = (
    omega (arith, least_more 0 w, least_none w),
    elim (dec_le (least_of 0 w) (w 0)) [ yes h ↦ sym (first_kept w 0 h ∙ first_none w) | no h ↦ sym (first_less w 0 (omega arith)) ],
  )

  -- A closure that changes nothing and gives w.
  module _ {F : Type 0} {g : Mut F (Bor ℕ × Unit {0}) ℕ} (f : F) (gives : (x k : ℕ) (q : F) → CalledAt g f x k q → (q ≡ f) × (k ≡ w x)) where
    turns : (n i key best last : ℕ) (p : F) (q : F × ℕ) → p ≡ f → key ≡ least_of i w → best ≡ first_within i w (least_of i w) →
        FoldsTo {P = (F × ℕ) × ℕ} (KeyTurn min_by_ordering min_by_ordering g nat_cmp) ((p, key), best) (range_with_len i n) (q, last) → last ≡ first_within (i + n) w (least_of (i + n) w)
    turns zero i key best last p q a k b t = let z : i + 0 ≡ i = omega arith in rw z (sym (ap (λ (x : (F × ℕ) × ℕ). x.1) t) ∙ b)
    turns (suc n) i key best last p q a k b t =
        let h = t.1 in
        let v : (t.0.0.0 ≡ f) × (h.0 ≡ w i) = gives i h.0 t.0.0.0 (rw a at h.2) in
        let m = picked i key best h.0 h.1 k b v.1 h.3 in
        let z : i + suc n ≡ i + 1 + n = omega arith in
        rw z (turns n (i + 1) t.0.0.1 t.0.1 last t.0.0.0 q v.0 (h.4 ∙ m.0) (h.5 ∙ m.1) t.2)

    run : (s : Range ℕ) (r : Option ℕ) → w 0 ≤ infeasible → s.start ≡ 0 → PicksMinByKey nat_range_steps g nat_cmp s f r → unwrap_or r 0 ≡ first_within s.end w (least_of s.end w)
    run s None l z d =
        let e : s.end ≡ 0 = omega (arith, z, ap length (items s [] d), length-range_with_len s.start (s.end - s.start)) in
        rw e (sym (first_none w))
    run s (Some y) l z d =
        let n = length d.1 in
        let i : d.0 ∷ d.1 ≡ range_with_len s.start (s.end - s.start) = items s (d.0 ∷ d.1) d.5 in
        let e : s.end ≡ 1 + n = omega (arith, z, ap length i, length-range_with_len s.start (s.end - s.start)) in
        let u : s.end - s.start ≡ suc n = omega (arith, z, e) in
        let i' : d.0 ∷ d.1 ≡ 0 ∷ range_with_len 1 n = rw (u, z) at i in
        let x : d.0 ≡ 0 = cc in
        let xs : d.1 ≡ range_with_len 1 n = cc in
        let v : (d.3 ≡ f) × (d.2 ≡ w d.0) = gives d.0 d.2 d.3 d.6 in
        rw e (turns n 1 d.2 d.0 y d.3 d.4 v.0 (v.1 ∙ ap w x ∙ (begun l).0) (x ∙ (begun l).1) (rw xs at d.7))

-- The level that `min_by_key` gives is the first of the least; with no level it is 0.
pub first_level : {F : Type 0} {g : Mut F (Bor ℕ × Unit {0}) ℕ} (s : Range ℕ) (f : F) (r : Option ℕ) (w : ℕ → ℕ) (n : ℕ) → PicksMinByKey nat_range_steps g nat_cmp s f r → ((x k : ℕ) (q : F) → CalledAt g f x k q → (q ≡ f) × (k ≡ w x)) → w 0 ≤ infeasible → s.start ≡ 0 → s.end ≡ n → unwrap_or r 0 ≡ first_within n w (least_of n w)
first_level s f r w n d gives l z e = rw (← e) (run w f gives s r l z d)
