-- The figures of a sheet as the code of a step finds them: the store (`store`), and a list of the levels' steady-state temperatures.
-- What one step rests on, and what a run of many.
-- Assumes nothing.
use Rattle.std.specs.Prelude.{◌≡◌, List, ℕ, ◌+◌, ◌≤◌, ◌<◌, ◌^◌, get_or}
use Rattle.thermal.specs.Thermal.{steady_state, RuleDomain}
use Rattle.frame.specs.Sheet.{Sheet, Ranges, steady_of, limit_max, temperature_max}
use Rattle.frame.specs.Table.{tabulate}
use Rattle.store.specs.Store.{jobs_max, levels_max}
use Rattle.store.specs.Figures.{power_at, change_at, work_at}
use Rattle.store.specs.declared.Store.{Store}
use Rattle.run.specs.declared.Run.{Run}
use Rattle.run.specs.declared.Job.{Job}

-- "The level's steady rise is P × R / 10,000 to the nearest whole number", for each level that there can be.
unfoldable pub steadies : Store → ℕ → List ℕ
steadies store resistance = tabulate (λ j. steady_state (power_at store j) resistance) 0 levels_max

-- What the store and the list have of job i at level j.
abbrev pub job_in : Store → List ℕ → ℕ → ℕ → Job
job_in store steady i j =
    record { work = work_at store i j; steady = get_or steady j 0 }

-- The store and the list hold the figures of the sheet.
pub record Stored (s : Sheet) (store : Store) (states : List ℕ) : Type 0 where
  pub change_time : (p j : ℕ) → p < levels_max → j < levels_max → (change_at store p j).time ≡ s.change_time p j
  pub change_energy : (p j : ℕ) → p < levels_max → j < levels_max → (change_at store p j).energy ≡ s.change_energy p j
  pub job_time : (i j : ℕ) → i < jobs_max → j < levels_max → (work_at store i j).time ≡ s.job_time i j
  pub job_energy : (i j : ℕ) → i < jobs_max → j < levels_max → (work_at store i j).energy ≡ s.job_energy i j
  pub decay : (i j : ℕ) → i < jobs_max → j < levels_max → (work_at store i j).decay ≡ s.decay i j
  pub steady : (j : ℕ) → j < levels_max → get_or states j 0 ≡ steady_of s j

-- What a step at level j may rest on: its places in the store, its sums in 64 bits, and the thermal rule.
pub record Rests (a : Run) (store : Store) (steady : List ℕ) (j : ℕ) : Type 0 where
  pub done : a.done < jobs_max
  pub level : a.level < levels_max
  pub next : j < levels_max
  pub time : a.time < 2 ^ 63
  pub energy : a.energy < 2 ^ 63
  pub rule : RuleDomain a.temperature (get_or steady j 0) (work_at store a.done j).decay

-- What a run of n more jobs may rest on: they are jobs of a sheet in its ranges, whose figures these are, and the run so far is no
-- larger than a sheet's limits can be.
pub record Begun (a : Run) (store : Store) (steady : List ℕ) (n : ℕ) : Type 0 where
  pub sheet : Sheet
  pub ranges : Ranges sheet
  pub stored : Stored sheet store steady
  pub done : a.done + n ≤ jobs_max
  pub level : a.level < levels_max
  pub time : a.time ≤ limit_max
  pub energy : a.energy ≤ limit_max
  pub temperature : a.temperature ≤ temperature_max
