-- What holds of both runs: time never falls, and is not rounded; the peak is the highest temperature at a job end.
-- Assumes nothing.
use mathlib.Core.Logic.{◌↔◌}
use mathlib.Core.Path.{◌≡◌, refl, ap, ◌∙◌}
use mathlib.Core.List.{List, [], ◌∷◌}
use Prim.Native.Nat.{ℕ, suc, ◌≤◌, max}
use native.Mathlib.Omega.{arith}
use Rattle.frame.specs.Sheet.{Sheet}
use Rattle.frame.specs.Run.{State, fresh, change, job, step, raised, run, exact_run, rounded_run}
use Rattle.frame.specs.Limits.{Limits, AtMost, Meets, limits_by}
use Rattle.frame.proofs.Limits.{at_most_less, at_most_max}

-- Document 01's words without a peak: the figures of a job end, and of every job end.
pub record AtEnd (k : Limits) (a : State) : Type 0 where
  pub time : AtMost a.time k.time
  pub energy : AtMost a.energy k.energy
  pub temperature : AtMost a.temperature k.temperature

abbrev pub AtEachEnd : Sheet → (State → State) → Limits → State → List ℕ → Type 0
AtEachEnd s r k a [] = Unit
AtEachEnd s r k a (j ∷ js) = AtEnd k (step s (r a) j) × AtEachEnd s r k (step s (r a) j) js

module _ (s : Sheet) where
  -- ---- time

  -- A list takes the same time in both runs.
  pub same_time : (js : List ℕ) (a b : State) → a.done ≡ b.done → a.level ≡ b.level → a.time ≡ b.time →
      (exact_run s a js).time ≡ (rounded_run s b js).time
  unfolding step change job raised
  same_time [] a b d l q = q
  same_time (j ∷ js) a b d l q =
      same_time js _ _ (ap suc d) refl
      (omega (arith, ap (λ (p : ℕ). s.change_time p j) l, ap (λ (i : ℕ). s.job_time i j) d))

  pub raised_time : (a : State) → (raised s a).time ≡ a.time
  unfolding raised
  raised_time a = refl

  module _ (r : State → State) (f : (a : State) → (r a).time ≡ a.time) where
    pub run_later : (js : List ℕ) (a : State) → a.time ≤ (run s r a js).time
    unfolding step change job
    run_later [] a = omega arith
    run_later (j ∷ js) a = let h = run_later js (step s (r a) j) in omega (arith, f a)

    -- A list that meets the limits by one deadline meets them by any other that its end keeps.
    pub meets_by : (d e : ℕ) (js : List ℕ) (a : State) → (run s r a js).time ≤ e → Meets s r (limits_by s d) a js → Meets s r (limits_by s e) a js
    meets_by d e [] a h w = tt
    meets_by d e (j ∷ js) a h w = let q = run_later js (step s (r a) j) in (omega arith, meets_by d e js _ h w.1)

  pub meets_time : (r : State → State) (d : ℕ) (js : List ℕ) (a : State) → a.time ≤ d → Meets s r (limits_by s d) a js → (run s r a js).time ≤ d
  meets_time r d [] a h w = h
  meets_time r d (j ∷ js) a h w = meets_time r d js _ w.0.time w.1

  -- ---- the peak

  pub step_peak : (a : State) (j : ℕ) → (step s a j).peak ≡ max a.peak (step s a j).temperature
  unfolding step change job
  step_peak a j = refl

  pub meets_peak : (r : State → State) (d : ℕ) (js : List ℕ) (a : State) → a.peak ≤ s.temperature_limit → Meets s r (limits_by s d) a js →
      (run s r a js).peak ≤ s.temperature_limit
  meets_peak r d [] a h w = h
  meets_peak r d (j ∷ js) a h w = meets_peak r d js _ w.0.temperature w.1

  module _ (r : State → State) (f : (a : State) → (r a).peak ≡ a.peak) (k : Limits) where
    -- Where the peak so far breaks no limit, `Within` tests this job's end.
    each_end : (js : List ℕ) (a : State) → ((x : ℕ) → AtMost x k.temperature → AtMost (max a.peak x) k.temperature) →
        Meets s r k a js ↔ AtEachEnd s r k a js
    each_end [] a h = ((λ w. tt), (λ w. tt))
    each_end (j ∷ js) a h =
        let b = step s (r a) j in
        let q : b.peak ≡ max a.peak b.temperature = step_peak (r a) j ∙ ap (λ (p : ℕ). max p b.temperature) (f a) in
        let m = at_most_max a.peak b.temperature k.temperature in
        let rest : AtMost b.peak k.temperature → Meets s r k b js ↔ AtEachEnd s r k b js = λ v. each_end js b (λ x l. (at_most_max b.peak x k.temperature).1 (v, l)) in (
          λ w. (
            record { time = w.0.time; energy = w.0.energy; temperature = (m.0 (rw q at w.0.temperature)).1 },
            (rest w.0.temperature).0 w.1,
          ),
          λ w. let v : AtMost b.peak k.temperature = rw q (h b.temperature w.0.temperature) in (
            record { time = w.0.time; energy = w.0.energy; temperature = v },
            (rest v).1 w.1,
          ),
        )

    -- From a fresh state, whatever the limits: they are met after every job exactly where every job end's figures meet them.
    pub meets_each_end : (i p e t : ℕ) (js : List ℕ) → Meets s r k (fresh i p e t) js ↔ AtEachEnd s r k (fresh i p e t) js
    meets_each_end i p e t js = each_end js (fresh i p e t) (λ x m. at_most_less (max 0 x) x k.temperature (omega arith) m)
