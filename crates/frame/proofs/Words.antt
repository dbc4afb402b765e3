-- What a word of the table holds is what document 01 says in words: the least time over all lists, or 4,294,967,295 exactly
-- where no list stays within the limits.
-- Assumes nothing.
use mathlib.Core.Path.{◌≡◌, refl}
use mathlib.Core.List.{List, [], ◌∷◌}
use Prim.Native.Nat.{ℕ, zero, suc, ◌+◌, ◌*◌, ◌-◌, ◌≤◌, ◌<◌}
use native.Mathlib.Omega.{arith}
use native.Mathlib.Decide.{dec_lt}
use lib.ListN.{length}
use Rattle.frame.specs.Sheet.{Sheet, Ranges, job_most}
use Rattle.frame.specs.Run.{State, fresh, change, job, step}
use Rattle.frame.specs.Plan.{least, plan}
use Rattle.frame.specs.Table.{cell, word}
use Rattle.frame.specs.Demands.{LevelList, end_time, Feasible, infeasible, LeastTime}
use Rattle.frame.proofs.Plan.{least_of_bounded, least_from}
use Rattle.frame.proofs.Demand2.{keeps_by, least_end, plan_keeps, plan_end}

-- What a word holds in words leaves one number.
pub least_time_unique : (s : Sheet) (n : ℕ) (a : State) (x y : ℕ) → LeastTime s n a x → LeastTime s n a y → x ≡ y
least_time_unique s n a x y h k =
    elim (dec_lt x infeasible) [
      | yes l ↦
          let p = h.reached l in
          let q : y ≤ x = omega (arith, k.least p.0 p.1, p.2) in
          let r = k.reached (omega arith) in
          omega (arith, h.least r.0 r.1, r.2)
      | no l ↦ let e : x ≡ infeasible = omega (arith, h.most) in omega (arith, k.none.1 (h.none.0 e))
    ]

module _ (s : Sheet) (ok : Ranges s) where
  -- A job with its change takes at most 20 seconds.
  run_short : (js : List ℕ) (a : State) → end_time s a js ≤ a.time + length js * job_most
  unfolding step change job
  run_short [] a = omega arith
  run_short (j ∷ js) a =
      omega (arith, run_short js (step s a j), ok.change_time a.level j, ok.job_time a.done j)

  list_short : (n : ℕ) (a : State) (js : List ℕ) → LevelList s n js → end_time s a js ≤ a.time + n * job_most
  list_short n a js l = rw l.size at (run_short js a)

  pub least_bounded : (n : ℕ) (a : State) → least s n a ≤ infeasible
  unfolding least
  least_bounded zero a = omega arith
  least_bounded (suc n) a = least_of_bounded s.levels _

  module _ (n : ℕ) (few : n ≤ 64) (a : State) (cool : a.peak ≤ s.temperature_limit) where
    plan_feasible : least s n a < infeasible → Feasible s n a (plan s n a)
    plan_feasible l = keeps_by s n a _ _ (plan s n a) (omega arith) (plan_keeps s n a cool l)

    pub least_time : LeastTime s n a (least s n a)
    least_time =
        record {
          most = least_bounded n a;
          reached = λ l. (plan s n a, plan_feasible l, plan_end s n a cool l);
          least = λ js f. least_end s n a _ js f;
          none = (
            λ e js f. omega (arith, least_end s n a _ js f, list_short n a js f.levels),
            λ h. elim (dec_lt (least s n a) infeasible) [
              | yes l ↦ absurd (h (plan s n a) (plan_feasible l))
              | no l ↦ omega (arith, least_bounded n a)
            ],
          );
        }

  -- Every word of the table, cells above C and cells that no run reaches included.
  pub word_least : (i p x y : ℕ) → LeastTime s (s.jobs - i) (cell s i p x y) (word s i p x y)
  unfolding word
  word_least i p x y = least_time (s.jobs - i) (omega (arith, ok.jobs.high)) (cell s i p x y) (omega arith)

  -- A least time is 4,294,967,295 or far below it: at most 20 seconds a job.
  pub least_small : (n : ℕ) (a : State) → least s n a < infeasible → least s n a ≤ n * job_most
  least_small n a l =
      let b = fresh a.done a.level a.energy a.temperature in
      let q : least s n a ≡ least s n b = least_from s n a b refl refl refl refl in
      let h : least s n b < infeasible = omega arith in
      omega (arith, plan_end s n b (omega arith) h, list_short n b (plan s n b) (plan_keeps s n b (omega arith) h).levels)
