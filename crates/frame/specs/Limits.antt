-- The limits of a frame and what it means to meet them (document 01, 'The run without grains'; demand 3), and the margins
-- of a measured list.
--
-- Limits are signed, since demand 3 may tighten them below zero.
-- Assumes nothing.
use Rattle.std.specs.Prelude.{List, [], ◌∷◌, ℕ, ◌*◌, ◌-◌, ◌≤◌, ℤ, pos, negsuc}
use Rattle.std.proofs.Math.IntN.{sub_ℕ}
use Rattle.frame.specs.Sheet.{Sheet}
use Rattle.frame.specs.Run.{State, start, step, exact_run}

-- A deadline, an energy budget and a temperature limit.
pub record Limits : Type 0 where
  pub time : ℤ
  pub energy : ℤ
  pub temperature : ℤ

-- A figure meets a limit where it is "at most that figure"; "nothing meets one below 0".
abbrev pub AtMost : ℕ → ℤ → Type 0
AtMost x (pos n) = x ≤ n
AtMost x (negsuc n) = ⊥

-- "The limits: time at most D, energy at most W, temperature at most C": the temperature of this job end and of those before
-- it, which is the peak so far.
pub record Within (k : Limits) (a : State) : Type 0 where
  pub time : AtMost a.time k.time
  pub energy : AtMost a.energy k.energy
  pub temperature : AtMost a.peak k.temperature

-- The limits hold "after every job", of the exact run for `exact` and of the rounded run for `raised s`. In the rounded run
-- they are "tested on the values before they are raised": on what a job leaves, not on what the next job starts from.
abbrev pub Meets : Sheet → (State → State) → Limits → State → List ℕ → Type 0
Meets s before k a [] = Unit
Meets s before k a (j ∷ js) = Within k (step s (before a) j) × Meets s before k (step s (before a) j) js

-- The sheet's energy budget and temperature limit, with the deadline d.
abbrev pub limits_by : Sheet → ℕ → Limits
limits_by s d = record { time = pos d; energy = pos s.energy_budget; temperature = pos s.temperature_limit }

-- The sheet's own limits.
abbrev pub limits : Sheet → Limits
limits s = limits_by s s.deadline

-- What demand 3 takes off the energy budget: "(m − 1) × (g − 1)", one raise for each job but the first, which starts at 0.
unfoldable pub energy_slack : Sheet → ℕ
energy_slack s = (s.jobs - 1) * (s.energy_step - 1)

-- What demand 3 takes off the temperature limit: "m × (h − 1)", one raise for each job.
unfoldable pub temperature_slack : Sheet → ℕ
temperature_slack s = s.jobs * (s.temperature_step - 1)

-- The sheet's limits, less e energy and t temperature: "the tightened figures are signed".
abbrev pub less_slack : Sheet → ℕ → ℕ → Limits
less_slack s e t = record { time = pos s.deadline; energy = sub_ℕ s.energy_budget e; temperature = sub_ℕ s.temperature_limit t }

-- The tightened limits of demand 3: "the deadline, the ration less (m − 1) × (g − 1) and the ceiling less m × (h − 1)".
abbrev pub tightened : Sheet → Limits
tightened s = less_slack s (energy_slack s) (temperature_slack s)

-- "three signed margins: D less total time, W less total energy, C less the highest temperature at a job end"
pub record Margins : Type 0 where
  pub time : ℤ
  pub energy : ℤ
  pub temperature : ℤ

-- The margins of a list of levels, in the exact run from the sheet's start.
unfoldable pub margins : Sheet → List ℕ → Margins
margins s js =
    let b : State = exact_run s (start s) js in
    record {
      time = sub_ℕ s.deadline b.time;
      energy = sub_ℕ s.energy_budget b.energy;
      temperature = sub_ℕ s.temperature_limit b.peak;
    }
