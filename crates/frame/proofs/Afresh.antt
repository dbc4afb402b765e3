-- Planning afresh (document 02, W1): demands 2 and 3 from what is read, and the promise of a kept plan.
-- Assumes nothing.
use mathlib.Core.Path.{◌≡◌, refl, sym, ap, subst, ◌∙◌}
use mathlib.Core.List.{List, [], ◌∷◌, ◌++◌}
use Prim.Native.Nat.{ℕ, ◌+◌, ◌≤◌, ◌<◌}
use native.Mathlib.Omega.{arith}
use native.Mathlib.Decide.{dec_le}
use lib.ListN.{length, take, drop, take-append-drop, length-drop}
use lib.Seq.{length-take-le}
use Rattle.thermal.proofs.Rounding.{raise_ge}
use Rattle.frame.specs.Sheet.{Sheet, Ranges}
use Rattle.frame.specs.Run.{State, change, job, step, exact, raised, run, exact_run, rounded_run}
use Rattle.frame.specs.Limits.{Limits, Within, Meets, limits, limits_by}
use Rattle.frame.specs.Demands.{Below, Keeps, Tight, end_time, no_plan, OutcomeDemand2, OutcomeDemand3}
use Rattle.frame.specs.Plan.{outcome}
use Rattle.frame.specs.Afresh.{reading, Readable, jobs_left, tightened_left, ran_to, Kept}
use Rattle.frame.proofs.Slack.{Near, rounded_sound, left_keeps, lower_meets, lower_run, rounded_above}
use Rattle.frame.proofs.Demand2.{keeps_soon, demand2, demand2_unique}
use Rattle.frame.proofs.Demand3.{less_tighter, demand3}

-- ---- a list in two parts

below_rest : (l : ℕ) (xs ys : List ℕ) → Below l (xs ++ ys) → Below l ys
below_rest l [] ys b = b
below_rest l (x ∷ xs) ys b = below_rest l xs ys b.1

module _ (s : Sheet) (r : State → State) where
  run_rest : (xs ys : List ℕ) (a : State) → run s r a (xs ++ ys) ≡ run s r (run s r a xs) ys
  run_rest [] ys a = refl
  run_rest (x ∷ xs) ys a = run_rest xs ys (step s (r a) x)

  meets_rest : (k : Limits) (xs ys : List ℕ) (a : State) → Meets s r k a (xs ++ ys) → Meets s r k (run s r a xs) ys
  meets_rest k [] ys a w = w
  meets_rest k (x ∷ xs) ys a w = meets_rest k xs ys _ w.1

run_done : (s : Sheet) (xs : List ℕ) (a : State) → (exact_run s a xs).done ≡ a.done + length xs
unfolding step change job
run_done s [] a = omega arith
run_done s (x ∷ xs) a = omega (arith, run_done s xs (step s a x))

-- What the list's own run shows is a reading that keeps it: nothing is above itself.
pub kept_own : (s : Sheet) (b : State) (js : List ℕ) (n : ℕ) → n ≤ length js → b.done + n < s.jobs →
    let c = ran_to s b js n in Kept s b js n (reading c.done c.level c.time c.energy c.temperature)
kept_own s b js n l h =
    let d : (ran_to s b js n).done ≡ b.done + n = omega (arith, run_done s (take n js) b, length-take-le n js l) in
    record { done = d; left = omega arith; level = refl; time = omega arith; energy = omega arith; temperature = omega arith }

module _ (s : Sheet) (ok : Ranges s) where
  -- ---- demands 2 and 3, from any state whose peak is within the temperature limit, where a job is left

  module _ (n : ℕ) (some : 1 ≤ n) (a : State) (cool : a.peak ≤ s.temperature_limit) where
    pub left_demand2 : OutcomeDemand2 s n a (outcome s n a)
    left_demand2 = demand2 s n a (omega (arith, ok.deadline)) cool some

    -- No list keeps the limits where time or energy is past its limit.
    pub late_keeps : (js : List ℕ) → s.deadline < a.time → ¬ Keeps s s.deadline n a js
    late_keeps js h w = omega (arith, keeps_soon s n a s.deadline js some w)

    pub spent_keeps : (js : List ℕ) → s.energy_budget < a.energy → ¬ Keeps s s.deadline n a js
    unfolding step change job raised
    spent_keeps [] h w = absurd (omega (arith, w.levels.size))
    spent_keeps (j ∷ js) h w = omega (arith, raise_ge s.energy_step a.energy ok.energy_step.low, w.meets.0.energy)

    tight_left : (js : List ℕ) → Tight s (tightened_left s n) n a js → Keeps s s.deadline n a js
    unfolding tightened_left
    tight_left js t =
        record {
          levels = t.levels;
          meets = left_keeps s ok (limits s) (tightened_left s n) js a (rw t.levels.size (less_tighter s ok _ _)) t.meets;
        }

    -- Energy past its limit is "no plan".
    pub spent_none : s.energy_budget < a.energy → outcome s n a ≡ no_plan
    spent_none h = demand2_unique s n a (outcome s n a) no_plan left_demand2 (λ js w. spent_keeps js h w)

    pub left_demand3 : OutcomeDemand3 s (tightened_left s n) n a (outcome s n a)
    left_demand3 = demand3 s ok (tightened_left s n) n a tight_left (outcome s n a) left_demand2

  -- ---- a kept plan

  -- After the first jobs of a list that meets the limits, its run is within them.
  record Inside (a : State) : Type 0 where
    pub level : a.level < s.levels
    pub time : a.time ≤ s.deadline
    pub energy : a.energy ≤ s.energy_budget
    pub temperature : a.temperature ≤ s.temperature_limit

  inside_step : (a : State) (j : ℕ) → j < s.levels → Within (limits s) (step s a j) → Inside (step s a j)
  unfolding step change job
  inside_step a j h w = omega (arith, w)

  -- A state from which a list keeps the limits is within them itself.
  keeps_inside : (n : ℕ) → 1 ≤ n → (a : State) → a.peak ≤ s.temperature_limit → a.level < s.levels → a.temperature ≤ s.temperature_limit →
      (js : List ℕ) → Keeps s s.deadline n a js → Inside a
  keeps_inside n some a cool l t js w =
      record {
        level = l;
        time = keeps_soon s n a s.deadline js some w;
        energy = elim (dec_le a.energy s.energy_budget) [ yes h ↦ h | no h ↦ absurd (spent_keeps n some a cool js (omega arith) w) ];
        temperature = t;
      }

  ran_inside : (xs ys : List ℕ) (a : State) → Inside a → Below s.levels (xs ++ ys) → Meets s exact (limits s) a (xs ++ ys) → Inside (exact_run s a xs)
  ran_inside [] ys a h u w = h
  ran_inside (x ∷ xs) ys a h u w = ran_inside xs ys (step s a x) (inside_step a x u.0 w.0) u.1 w.1

  -- What is read after n jobs of a list for the m jobs left from b.
  module _ (b : State) (m : ℕ) (e : m ≡ jobs_left s b) (js : List ℕ) (size : length js ≡ m) (n : ℕ) (a : State) (new : a.peak ≡ 0) (k : Kept s b js n a) where
    -- It lies nowhere above the list's exact run.
    kept_near : Near 0 0 (ran_to s b js n) a
    kept_near = omega (arith, k, run_done s (take n js) b, length-take-le n js (omega (arith, k.done, k.left)))

    -- It is in its ranges, and not above the temperature limit.
    pub kept_readable : b.level < s.levels → b.temperature ≤ s.temperature_limit → b.peak ≤ s.temperature_limit → Keeps s s.deadline m b js → Readable s a
    kept_readable l t p w =
        let i = keeps_inside m (omega (arith, k.done, k.left)) b p l t js w in
        let h =
        ran_inside (take n js) (drop n js) b i
        (rw (take-append-drop n js) w.levels.below) (rw (take-append-drop n js) (rounded_sound s ok (limits s) js b w.meets)) in
        record { done = k.left; range = omega (arith, h, k, ok.deadline, ok.energy_budget, ok.temperature_limit); temperature = omega (arith, h, k) }

    -- The list's remaining jobs keep the limits from there and end no later.
    pub kept_rest : (d : ℕ) → Keeps s d m b js → Keeps s d (jobs_left s a) a (drop n js) × (end_time s a (drop n js) ≤ end_time s b js)
    kept_rest d w =
        let xs = take n js in
        let ys = drop n js in
        let q : xs ++ ys ≡ js = take-append-drop n js in
        let u = subst (λ (z : List ℕ). Below s.levels z) (sym q) w.levels.below in
        let v = meets_rest s (raised s) (limits_by s d) xs ys b (subst (λ (z : List ℕ). Meets s (raised s) (limits_by s d) b z) (sym q) w.meets) in
        let h : Near 0 0 (rounded_run s b xs) a = omega (arith, kept_near, rounded_above s ok xs b) in
        let t = ap (λ (z : State). z.time) (sym (run_rest s exact xs ys b) ∙ ap (exact_run s b) q) in
        let z = lower_run s ok exact (λ x y l. l) ys (ran_to s b js n) a kept_near in (
          record {
            levels = record { size = length-drop n js ∙ omega (arith, size, k.done); below = below_rest s.levels xs ys u };
            meets = lower_meets s ok (limits_by s d) ys (rounded_run s b xs) a h v;
          },
          omega (arith, t, z.time),
        )
