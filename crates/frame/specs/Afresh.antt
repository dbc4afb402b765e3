-- Planning afresh after a job (document 02, W1): what is read, the limits of demand 3 for the jobs still to do, and what it means
-- that a plan was kept so far.
-- Assumes nothing.
use Rattle.std.specs.Prelude.{◌≡◌, List, ℕ, ◌+◌, ◌*◌, ◌-◌, ◌≤◌, ◌<◌, take}
use Rattle.frame.specs.Sheet.{Sheet, limit_max, temperature_max}
use Rattle.frame.specs.Run.{State, exact_run}
use Rattle.frame.specs.Limits.{Limits, less_slack}

-- "Given jobs done, present level, elapsed time, energy spent and temperature": the state from which the remaining jobs run. None
-- of them has ended, and the temperature read is no job end: the peak is 0.
abbrev pub reading : ℕ → ℕ → ℕ → ℕ → ℕ → State
reading done level time energy temperature =
    record { done = done; level = level; time = time; energy = energy; temperature = temperature; peak = 0 }

-- Nothing that 14 tests is out of range: "14 where the level is l or more, time or energy is above 2,000,000,000, or temperature is above
-- 20,000".
pub record InRange (s : Sheet) (a : State) : Type 0 where
  pub level : a.level < s.levels
  pub time : a.time ≤ limit_max
  pub energy : a.energy ≤ limit_max
  pub temperature : a.temperature ≤ temperature_max

-- Neither 13, 14 nor the reading's 5 applies: "13 where jobs done is m or more"; "A reading above the ceiling is number 5".
pub record Readable (s : Sheet) (a : State) : Type 0 where
  pub done : a.done < s.jobs
  pub range : InRange s a
  pub temperature : a.temperature ≤ s.temperature_limit

-- The jobs still to do: m less the jobs done, "at least 0".
abbrev pub jobs_left : Sheet → State → ℕ
jobs_left s a = s.jobs - a.done

-- The tightened limits of demand 3 where n jobs are still to do: "The slack counts the jobs still to do, with one more raise for
-- the energy read".
unfoldable pub tightened_left : Sheet → ℕ → Limits
tightened_left s n = less_slack s (n * (s.energy_step - 1)) (n * (s.temperature_step - 1))

-- The exact run of the first n jobs of a list, from a state b.
abbrev pub ran_to : Sheet → State → List ℕ → ℕ → State
ran_to s b js n = exact_run s b (take n js)

-- "If the first plan was kept so far, level included, .. and no reading is above that plan's run without grains": a is what is read after
-- n jobs of a list that was planned from b. The level is that of the last job done, and b's where none is; b is the sheet's start for
-- the first plan.
pub record Kept (s : Sheet) (b : State) (js : List ℕ) (n : ℕ) (a : State) : Type 0 where
  pub done : a.done ≡ b.done + n
  pub left : a.done < s.jobs
  pub level : a.level ≡ (ran_to s b js n).level
  pub time : a.time ≤ (ran_to s b js n).time
  pub energy : a.energy ≤ (ran_to s b js n).energy
  pub temperature : a.temperature ≤ (ran_to s b js n).temperature
