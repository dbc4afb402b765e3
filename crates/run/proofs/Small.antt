-- How large the figures of the exact run can be after k jobs: by induction over the jobs, as each adds a bounded amount to time and
-- to energy and leaves no temperature above 20,000.
-- Assumes nothing.
use mathlib.Core.Path.{◌≡◌}
use mathlib.Core.List.{List, [], ◌∷◌}
use Prim.Native.Nat.{ℕ, suc, ◌+◌, ◌*◌, ◌≤◌, max}
use native.Mathlib.Omega.{arith}
use lib.ListN.{length}
use Rattle.thermal.proofs.Thermal.{rule_max}
use Rattle.frame.specs.Sheet.{Sheet, Ranges, steady_of, job_most}
use Rattle.frame.specs.Run.{State, fresh, start, change, job, step, exact_run}

-- k jobs after the state `first`.
pub record Grown (first : State) (k : ℕ) (a : State) : Type 0 where
  pub done : a.done ≡ first.done + k
  pub time : a.time ≤ first.time + k * job_most
  pub energy : a.energy ≤ first.energy + k * job_most
  pub temperature : a.temperature ≤ 20000
  pub peak : a.peak ≤ max first.peak 20000

-- k jobs after the start of a sheet.
abbrev pub Small : ℕ → State → Type 0
Small k a = Grown (fresh 0 0 0 0) k a

-- No job after a state that is cool enough.
pub grown_none : (a : State) → a.temperature ≤ 20000 → Grown a 0 a
grown_none a h = omega (arith, h)

module _ {s : Sheet} (r : Ranges s) where
  -- "Start with time 0, energy 0, the start temperature and the start level."
  pub small_start : Small 0 (start s)
  small_start = omega (arith, r.start_temperature)

  -- "A job at a level adds the job's time and energy there and those of the change from the level before."
  pub small_step : {first : State} {k : ℕ} {a : State} (j : ℕ) → Grown first k a → Grown first (suc k) (step s a j)
  unfolding step change job
  small_step {a = a} j w =
      omega (
        arith,
        rule_max a.temperature (steady_of s j) (s.decay a.done j) (r.decay a.done j),
        r.steady j,
        r.change_time a.level j,
        r.change_energy a.level j,
        r.job_time a.done j,
        r.job_energy a.done j,
      )

  -- After a whole list.
  pub small_run : {first : State} (js : List ℕ) (k : ℕ) (a : State) → Grown first k a → Grown first (k + length js) (exact_run s a js)
  small_run [] k a w = let z : k + 0 ≡ k = omega arith in rw z w
  small_run (j ∷ js) k a w =
      let z : k + suc (length js) ≡ suc k + length js = omega arith in
      rw z (small_run js (suc k) (step s a j) (small_step j w))
