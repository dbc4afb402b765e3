-- A frame's run (document 01, 'The run without grains' and 'The rounded run and the table'): one state that each job
-- carries forward, from the sheet's start or from any other state.
--
-- TCEC writes a job as path transfer functions, equations (8) to (10), and raising as its function g_k.
-- Assumes nothing.
use Rattle.std.specs.Prelude.{List, [], ◌∷◌, ℕ, suc, ◌+◌, max}
use Rattle.thermal.specs.Rounding.{raise}
use Rattle.thermal.specs.Thermal.{temperature_after}
use Rattle.frame.specs.Sheet.{Sheet, steady_of}

-- "The run is kept as one state that each job carries forward."
pub record State : Type 0 where
  -- jobs done
  pub done : ℕ
  -- the present level
  pub level : ℕ
  pub time : ℕ
  pub energy : ℕ
  pub temperature : ℕ
  -- the highest temperature at a job end so far: "Within a job temperature moves one way only, so job ends suffice"
  pub peak : ℕ

-- i jobs done, at level p, with energy e and temperature t; time counts from here, and no job end is seen yet.
abbrev pub fresh : ℕ → ℕ → ℕ → ℕ → State
fresh i p e t = record { done = i; level = p; time = 0; energy = e; temperature = t; peak = 0 }

-- "Start with time 0, energy 0, the start temperature and the start level."
abbrev pub start : Sheet → State
start s = fresh 0 s.start_level 0 s.start_temperature

-- A change to level j adds its time and energy. "A change of level itself moves no temperature."
unfoldable pub change : Sheet → State → ℕ → State
change s a j =
    record {
      done = a.done;
      level = j;
      time = a.time + s.change_time a.level j;
      energy = a.energy + s.change_energy a.level j;
      temperature = a.temperature;
      peak = a.peak;
    }

-- The next job at the present level adds its time and energy there, and moves the temperature by the thermal rule.
unfoldable pub job : Sheet → State → State
job s a =
    let t : ℕ = temperature_after a.temperature (steady_of s a.level) (s.decay a.done a.level) in
    record {
      done = suc a.done;
      level = a.level;
      time = a.time + s.job_time a.done a.level;
      energy = a.energy + s.job_energy a.done a.level;
      temperature = t;
      peak = max a.peak t;
    }

-- "A job at a level adds the job's time and energy there and those of the change from the level before."
unfoldable pub step : Sheet → State → ℕ → State
step s a j = job s (change s a j)

-- What comes before each job of the exact run: nothing.
abbrev pub exact : State → State
exact a = a

-- What comes before each job of the rounded run: "energy is raised to the next multiple of g and temperature to the next
-- multiple of h (a multiple stays)".
unfoldable pub raised : Sheet → State → State
raised s a =
    record {
      done = a.done;
      level = a.level;
      time = a.time;
      energy = raise s.energy_step a.energy;
      temperature = raise s.temperature_step a.temperature;
      peak = a.peak;
    }

-- The next jobs at the levels of a list, with what comes before each.
abbrev pub run : Sheet → (State → State) → State → List ℕ → State
run s before a [] = a
run s before a (j ∷ js) = run s before (step s (before a) j) js

-- The exact run (document 01: the run without grains).
abbrev pub exact_run : Sheet → State → List ℕ → State
exact_run s a js = run s exact a js

-- The rounded run: "As above, but before each job energy is raised" and temperature too.
abbrev pub rounded_run : Sheet → State → List ℕ → State
rounded_run s a js = run s (raised s) a js
