-- The figures of a job sheet (document 01, 'Units' and 'The sheet'), and the ranges in which a sheet that is read holds them.
--
-- "All are unsigned whole numbers". A figure of a level, a change or a job is a function of its numbers, counted from 0;
-- TCEC's name of a figure stands behind document 01's. Ranges bind a figure at every index: a sheet's figures end with its
-- jobs and levels, and whoever makes a `Sheet` of them keeps them in range beyond.
-- Assumes nothing.
use Rattle.std.specs.Prelude.{◌≡◌, ℕ, ◌*◌, ◌≤◌, ◌<◌}
use Rattle.thermal.specs.Thermal.{steady_state}

-- What stands in a sheet, but for the jobs' names.
pub record Sheet : Type 0 where
  -- m, the number of jobs
  pub jobs : ℕ
  -- l, the number of voltage levels
  pub levels : ℕ
  -- the level before the first job
  pub start_level : ℕ
  -- D, in microseconds ("Time: microseconds"), as all times
  pub deadline : ℕ
  -- W, document 01's ration, in microjoules ("Energy: microjoules"), as all energies
  pub energy_budget : ℕ
  -- C, document 01's ceiling (T_max), in "hundredths of a kelvin above the rock temperature at the logger", as all temperatures
  pub temperature_limit : ℕ
  -- the temperature before the first job (T_init)
  pub start_temperature : ℕ
  -- R, in millikelvins per watt ("Thermal resistance: millikelvins per watt")
  pub resistance : ℕ
  -- g, document 01's energy grain (step size Δ_2)
  pub energy_step : ℕ
  -- h, document 01's temperature grain (step size Δ_3)
  pub temperature_step : ℕ
  -- P of a level, in milliwatts ("Power: milliwatts")
  pub power : ℕ → ℕ
  -- time of a change, by the level left and then the level entered (δ)
  pub change_time : ℕ → ℕ → ℕ
  -- energy of a change, by the level left and then the level entered (ψ)
  pub change_energy : ℕ → ℕ → ℕ
  -- time of a job at a level, by job and then level (t)
  pub job_time : ℕ → ℕ → ℕ
  -- energy of a job at a level (w)
  pub job_energy : ℕ → ℕ → ℕ
  -- thermal decay of a job at a level (β), "a whole number out of 65,536"
  pub decay : ℕ → ℕ → ℕ

-- The steady-state temperature of level j (document 01: "The level's steady rise").
abbrev pub steady_of : Sheet → ℕ → ℕ
steady_of s j = steady_state (s.power j) s.resistance

-- x lies in a range from lo to hi, both ends included.
pub record Between (lo hi x : ℕ) : Type 0 where
  pub low : lo ≤ x
  pub high : x ≤ hi

-- The upper ends of the ranges. The constants of the crate `store` have the same names.
-- "m (1 to 64)"
abbrev pub jobs_max : ℕ
jobs_max = 64

-- "l (1 to 8)"
abbrev pub levels_max : ℕ
levels_max = 8

-- "deadline D (0 to 2,000,000,000), ration W (same range)", "energy grain g (1 to 2,000,000,000)"
abbrev pub limit_max : ℕ
limit_max = 2000000000

-- "ceiling C (0 to 20,000), start temperature (0 to 20,000)", "temperature grain h (1 to 20,000)"; the steady rise "must be at most
-- 20,000"
abbrev pub temperature_max : ℕ
temperature_max = 20000

-- "resistance R (0 to 20,000)"
abbrev pub resistance_max : ℕ
resistance_max = 20000

-- "power P (0 to 100,000)"
abbrev pub power_max : ℕ
power_max = 100000

-- A time or an energy: of a change "(each 0 to 10,000,000)", of a job "time (1 to 10,000,000), energy (0 to 10,000,000)".
abbrev pub cost_max : ℕ
cost_max = 10000000

-- "decay (0 to 65,536)"
abbrev pub decay_max : ℕ
decay_max = 65536

-- The most that a job adds to time and to energy: its own and those of the change before it.
abbrev pub job_most : ℕ
job_most = 2 * cost_max

-- The ranges that document 01 gives the figures, line by line; `cool` is what refusal 5 leaves.
pub record Ranges (s : Sheet) : Type 0 where
  pub jobs : Between 1 jobs_max s.jobs
  pub levels : Between 1 levels_max s.levels
  pub start_level : s.start_level < s.levels
  pub deadline : s.deadline ≤ limit_max
  pub energy_budget : s.energy_budget ≤ limit_max
  pub temperature_limit : s.temperature_limit ≤ temperature_max
  pub start_temperature : s.start_temperature ≤ temperature_max
  pub resistance : s.resistance ≤ resistance_max
  pub energy_step : Between 1 limit_max s.energy_step
  pub temperature_step : Between 1 temperature_max s.temperature_step
  pub power : (j : ℕ) → s.power j ≤ power_max
  pub steady : (j : ℕ) → steady_of s j ≤ temperature_max
  pub change_time : (p j : ℕ) → s.change_time p j ≤ cost_max
  pub change_energy : (p j : ℕ) → s.change_energy p j ≤ cost_max
  pub stay : (p : ℕ) → (s.change_time p p ≡ 0) × (s.change_energy p p ≡ 0)
  pub job_time : (i j : ℕ) → s.job_time i j ≤ cost_max
  pub job_time_least : (i j : ℕ) → i < s.jobs → j < s.levels → 1 ≤ s.job_time i j
  pub job_energy : (i j : ℕ) → s.job_energy i j ≤ cost_max
  pub decay : (i j : ℕ) → s.decay i j ≤ decay_max
  pub cool : s.start_temperature ≤ s.temperature_limit
