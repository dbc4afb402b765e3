-- The least time is a lower bound of every list's, the choice takes at most the time allowed, and no list that does comes
-- before it in level order.
-- Assumes nothing.
use mathlib.Core.Path.{◌≡◌, refl, ap}
use mathlib.Core.Bool.{Bool, true, false, cond}
use mathlib.Core.List.{List, [], ◌∷◌}
use Prim.Native.Nat.{ℕ, zero, suc, ◌+◌, ◌-◌, ◌≤◌, ◌<◌, min, max}
use native.Mathlib.Omega.{arith}
use native.Mathlib.Decide.{dec_le, dec_lt}
use lib.Dec.{leb}
use lib.ListN.{length}
use borrow.Author.Tests.{leb-true, le-leb, lt-leb}
use Rattle.frame.specs.Sheet.{Sheet}
use Rattle.frame.specs.Run.{State, change, job, step, raised}
use Rattle.frame.specs.Limits.{Within, Meets, limits_by}
use Rattle.frame.specs.Plan.{least_of, first_within, next, cost, least, via, choice}
use Rattle.frame.specs.Demands.{Below, LexLe, Keeps, infeasible}

-- ---- the least of k numbers, and the first that is small enough

pub least_of_le : (k : ℕ) (f : ℕ → ℕ) (j : ℕ) → j < k → least_of k f ≤ f j
unfolding least_of
least_of_le zero f j h = omega arith
least_of_le (suc k) f j h =
    elim (dec_lt j k) [
      | yes l ↦ omega (arith, least_of_le k f j l)
      | no l ↦ let q : j ≡ k = omega arith in omega (arith, ap f q)
    ]

pub least_of_bounded : (k : ℕ) (f : ℕ → ℕ) → least_of k f ≤ infeasible
unfolding least_of
least_of_bounded zero f = omega arith
least_of_bounded (suc k) f = omega (arith, least_of_bounded k f)

module _ (f : ℕ → ℕ) (x : ℕ) (small : x < infeasible) where
  -- Where the least is at most x, the first place is one where f is.
  pub first_within_most : (k : ℕ) → least_of k f ≤ x → (first_within k f x < k) × (f (first_within k f x) ≤ x)
  unfolding least_of first_within
  first_within_most zero b = absurd (omega arith)
  first_within_most (suc k) b =
      elim (dec_le (least_of k f) x) [
        | yes l ↦ let r = first_within_most k l in rw (le-leb (least_of k f) x l) (omega arith)
        | no l ↦ rw (lt-leb (least_of k f) x (omega arith)) (omega arith)
      ]

  -- No earlier place has f at most x.
  pub first_le : (k j : ℕ) → j < k → f j ≤ x → first_within k f x ≤ j
  unfolding least_of first_within
  first_le zero j l q = omega arith
  first_le (suc k) j l q =
      elim (dec_lt j k) [
        | yes v ↦ rw (le-leb (least_of k f) x (omega (arith, least_of_le k f j v))) (first_le k j v q)
        | no v ↦
            elim (dec_le (least_of k f) x) [
              | yes u ↦ rw (le-leb (least_of k f) x u) (omega (arith, (first_within_most k u).0))
              | no u ↦ rw (lt-leb (least_of k f) x (omega arith)) (omega arith)
            ]
      ]

cond_le : (b : Bool) (x y : ℕ) → y < infeasible → cond b x infeasible ≤ y → (b ≡ true) × (x ≤ y)
cond_le true x y l h = (refl, h)
cond_le false x y l h = absurd (omega arith)

module _ (s : Sheet) where
  -- ---- a job's cost

  pub cost_le : (b : State) (r : ℕ) → b.energy ≤ s.energy_budget → b.peak ≤ s.temperature_limit → cost s b r ≤ b.time + r
  unfolding cost
  cost_le b r u h = rw (le-leb b.energy s.energy_budget u, le-leb b.peak s.temperature_limit h) (omega arith)

  pub cost_lt : (b : State) (r x : ℕ) → x < infeasible → cost s b r ≤ x →
      (b.energy ≤ s.energy_budget) × (b.peak ≤ s.temperature_limit) × (b.time + r ≤ x)
  unfolding cost
  cost_lt b r x l h =
      let u = cond_le (leb b.energy s.energy_budget) _ x l h in
      let v = cond_le (leb b.peak s.temperature_limit) (min infeasible (b.time + r)) x l u.1 in
      let w = v.1 in
      (leb-true _ _ u.0, leb-true _ _ v.0, omega arith)

  -- ---- the least time, from any state

  -- The time and the peak so far do not count.
  pub least_from : (n : ℕ) (a b : State) → a.done ≡ b.done → a.level ≡ b.level → a.energy ≡ b.energy → a.temperature ≡ b.temperature →
      least s n a ≡ least s n b
  unfolding least via next step change job raised
  least_from zero a b d l e t = refl
  least_from (suc n) a b d l e t = rw (d, l, e, t) refl

  -- The state after a job counts on from the state before.
  next_step : (a : State) (j : ℕ) →
      ((step s (raised s a) j).time ≡ a.time + (next s a j).time) × ((step s (raised s a) j).energy ≡ (next s a j).energy) ×
      ((step s (raised s a) j).peak ≡ max a.peak (next s a j).peak)
  unfolding next step change job raised
  next_step a j = omega arith

  least_next : (n : ℕ) (a : State) (j : ℕ) → least s n (step s (raised s a) j) ≡ least s n (next s a j)
  unfolding next step change job raised
  least_next n a j = least_from n _ _ refl refl refl refl

  -- Level j first and then the least time: a list that can be done by d makes the way short, and a short way can be done by d.
  via_le : (d n : ℕ) (a : State) (j : ℕ) → Within (limits_by s d) (step s (raised s a) j) →
      (step s (raised s a) j).time + least s n (step s (raised s a) j) ≤ d → a.time + via s (least s n) a j ≤ d
  unfolding via
  via_le d n a j w h =
      let q = next_step a j in
      omega (arith, least_next n a j, cost_le (next s a j) (least s n (next s a j)) (omega arith) (omega arith))

  via_lt : (d n : ℕ) (a : State) (j x : ℕ) → x < infeasible → a.time + x ≤ d → a.peak ≤ s.temperature_limit → via s (least s n) a j ≤ x →
      Within (limits_by s d) (step s (raised s a) j) × ((next s a j).time + least s n (step s (raised s a) j) ≤ x)
  unfolding via
  via_lt d n a j x l c p h =
      let q = next_step a j in
      let u = cost_lt (next s a j) (least s n (next s a j)) x l h in
      let e = least_next n a j in
      (omega arith, omega arith)

module _ (s : Sheet) (d : ℕ) where
  -- Where a list keeps the limits by d, the least time keeps d.
  pub least_le : (js : List ℕ) (a : State) → Below s.levels js → Meets s (raised s) (limits_by s d) a js → a.time ≤ d →
      a.time + least s (length js) a ≤ d
  unfolding least
  least_le [] a b w h = omega arith
  least_le (j ∷ js) a b w h =
      let r = least_le js (step s (raised s a) j) b.1 w.1 w.0.time in
      omega (arith, via_le s d (length js) a j w.0 r, least_of_le s.levels (via s (least s (length js)) a) j b.0)

  pub keeps_least : (n : ℕ) (a : State) (js : List ℕ) → a.time ≤ d → Keeps s d n a js → a.time + least s n a ≤ d
  keeps_least n a js h k = rw k.levels.size at (least_le js a k.levels.below k.meets h)

  -- No list that keeps the limits by d comes before the choice.
  pub choice_first : (js : List ℕ) (a : State) (x : ℕ) → x < infeasible → d ≤ a.time + x → a.time ≤ d → Below s.levels js →
      Meets s (raised s) (limits_by s d) a js → LexLe (choice s (length js) a x) js
  unfolding choice
  choice_first [] a x l c h b w = tt
  choice_first (j ∷ js) a x l c h b w =
      let r = least_le js (step s (raised s a) j) b.1 w.1 w.0.time in
      let q = next_step s a j in
      let u = via_le s d (length js) a j w.0 r in (
        first_le (via s (least s (length js)) a) x l s.levels j b.0 (omega arith),
        λ z. rw z (choice_first js (step s (raised s a) j) (x - (next s a j).time) (omega arith) (omega arith) w.0.time b.1 w.1),
      )

  -- The choice keeps the limits by d.
  pub choice_keeps : (n : ℕ) (a : State) (x : ℕ) → x < infeasible → a.time + x ≤ d → a.peak ≤ s.temperature_limit → least s n a ≤ x →
      Keeps s d n a (choice s n a x)
  unfolding choice least
  choice_keeps zero a x l c p h = record { levels = record { size = refl; below = tt }; meets = tt }
  choice_keeps (suc n) a x l c p h =
      let j = first_within s.levels (via s (least s n) a) x in
      let f = first_within_most (via s (least s n) a) x l s.levels h in
      let u = via_lt s d n a j x l c p f.1 in
      let q = next_step s a j in
      let r = choice_keeps n (step s (raised s a) j) (x - (next s a j).time) (omega arith) (omega arith) u.0.temperature (omega arith) in
      record { levels = record { size = ap suc r.levels.size; below = (f.0, r.levels.below) }; meets = (u.0, r.meets) }
