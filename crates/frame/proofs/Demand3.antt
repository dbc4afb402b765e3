-- Demand 3 follows from demand 2 in words: a plan is sound in the exact run and takes no longer than any list that meets the
-- tightened limits, and where there is no plan there is no such list.
-- Assumes nothing.
use mathlib.Core.Path.{◌≡◌}
use mathlib.Core.List.{List, [], ◌∷◌}
use Prim.Native.Nat.{ℕ, ◌*◌, ◌-◌, ◌≤◌}
use native.Mathlib.Nat.{mul-le-mul_right}
use native.Mathlib.Omega.{arith}
use lib.ListN.{length}
use Rattle.frame.specs.Sheet.{Sheet, Ranges}
use Rattle.frame.specs.Run.{State, start}
use Rattle.frame.specs.Limits.{Limits, limits, energy_slack, temperature_slack, less_slack, tightened}
use Rattle.frame.specs.Plan.{frame_outcome}
use Rattle.frame.specs.Demands.{Keeps, Outcome, planned, no_plan, OutcomeDemand2, Tight, OutcomeDemand3}
use Rattle.frame.proofs.Limits.{at_most_sub, Tighter}
use Rattle.frame.proofs.Slack.{rounded_sound, tighter_keeps}
use Rattle.frame.proofs.Demand2.{demand2}

module _ (s : Sheet) (ok : Ranges s) where
  -- What meets the limits less a slack meets the limits with the slack added to it.
  pub less_tighter : (e t : ℕ) → Tighter e t (limits s) (less_slack s e t)
  less_tighter e t =
      record {
        time = λ x h. h;
        energy = λ x h. (at_most_sub x s.energy_budget e).0 h;
        temperature = λ x h. (at_most_sub x s.temperature_limit t).0 h;
      }

  -- The slack has room for the raises of a list of one level for each job.
  energy_raises : (j : ℕ) (js : List ℕ) → length (j ∷ js) ≡ s.jobs → length js * (s.energy_step - 1) ≤ energy_slack s
  unfolding energy_slack
  energy_raises j js l = mul-le-mul_right (s.energy_step - 1) (omega arith)

  temperature_raises : (j : ℕ) (js : List ℕ) → length (j ∷ js) ≡ s.jobs → length (j ∷ js) * (s.temperature_step - 1) ≤ temperature_slack s
  unfolding temperature_slack
  temperature_raises j js l = mul-le-mul_right (s.temperature_step - 1) (omega arith)

  -- A list that meets the tightened limits in the exact run keeps the limits when rounded.
  tight_keeps : (js : List ℕ) → Tight s (tightened s) s.jobs (start s) js → Keeps s s.deadline s.jobs (start s) js
  tight_keeps [] t = absurd (omega (arith, t.levels.size, ok.jobs.low))
  tight_keeps (j ∷ js) t =
      let l = t.levels.size in
      record {
        levels = t.levels;
        meets =
            tighter_keeps s ok (limits s) (tightened s) (energy_slack s) (temperature_slack s) (less_tighter (energy_slack s) (temperature_slack s)) 0 s.start_level s.start_temperature j js
            (energy_raises j js l) (temperature_raises j js l) t.meets;
      }

  -- Demand 3 from demand 2 in words, where the lists that meet the tightened limits keep the limits when rounded.
  pub demand3 : (k : Limits) (n : ℕ) (a : State) → ((xs : List ℕ) → Tight s k n a xs → Keeps s s.deadline n a xs) →
      (o : Outcome) → OutcomeDemand2 s n a o → OutcomeDemand3 s k n a o
  demand3 k n a f (planned js) b =
      record {
        levels = b.keeps.levels;
        meets = rounded_sound s ok (limits s) js a b.keeps.meets;
        no_slower = λ xs t. b.least xs (f xs t);
      }
  demand3 k n a f no_plan b = λ xs t. b xs (f xs t)

  -- ---- the sheet's own frame

  pub frame_demand2 : OutcomeDemand2 s s.jobs (start s) (frame_outcome s)
  frame_demand2 = demand2 s s.jobs (start s) (omega (arith, ok.deadline)) (omega arith) ok.jobs.low

  pub frame_demand3 : OutcomeDemand3 s (tightened s) s.jobs (start s) (frame_outcome s)
  frame_demand3 = demand3 (tightened s) s.jobs (start s) tight_keeps (frame_outcome s) frame_demand2
