-- Head and store as a `Sheet` of `frame` (document 01, 'The sheet'). What is past the end of the store counts as 0.
-- Assumes nothing.
use Rattle.std.specs.Prelude.{[], ℕ, get_or, replicate}
use Rattle.frame.specs.Sheet.{Sheet}
use Rattle.store.specs.Store.{jobs_max, levels_max}
use Rattle.store.specs.declared.Head.{Head}
use Rattle.store.specs.declared.Change.{Change}
use Rattle.store.specs.declared.Work.{Work}
use Rattle.store.specs.declared.Store.{Store}

-- A change and a job of no figures.
abbrev pub no_change : Change
no_change = record { time = 0; energy = 0 }

abbrev pub no_work : Work
no_work = record { time = 0; energy = 0; decay = 0 }

-- A store of no figures.
abbrev pub clear : Store
clear =
    record {
      powers = replicate levels_max 0;
      changes = replicate levels_max (replicate levels_max no_change);
      works = replicate jobs_max (replicate levels_max no_work);
    }

-- "L, power P" of level j.
abbrev pub power_at : Store → ℕ → ℕ
power_at st j = get_or st.powers j 0

-- "S, time, energy of a change", of level p left and level j entered.
abbrev pub change_at : Store → ℕ → ℕ → Change
change_at st p j = get_or (get_or st.changes p []) j no_change

-- "B, time .., energy .., decay ..", of job i at level j.
abbrev pub work_at : Store → ℕ → ℕ → Work
work_at st i j = get_or (get_or st.works i []) j no_work

-- The sheet of these figures.
unfoldable pub sheet_of : Head → Store → Sheet
sheet_of h store =
    record {
      jobs = h.jobs;
      levels = h.levels;
      start_level = h.start_level;
      deadline = h.deadline;
      energy_budget = h.energy_budget;
      temperature_limit = h.temperature_limit;
      start_temperature = h.start_temperature;
      resistance = h.resistance;
      energy_step = h.energy_step;
      temperature_step = h.temperature_step;
      power = λ j. power_at store j;
      change_time = λ p j. (change_at store p j).time;
      change_energy = λ p j. (change_at store p j).energy;
      job_time = λ i j. (work_at store i j).time;
      job_energy = λ i j. (work_at store i j).energy;
      decay = λ i j. (work_at store i j).decay;
    }
