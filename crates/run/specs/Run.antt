-- What the code of the exact run speaks of (document 01, 'The run without grains'): the state that it holds, the figures that
-- one job takes from the sheet, and the sizes that it may rest on.
-- Assumes nothing.
use Rattle.std.specs.Prelude.{◌≡◌, ℕ, suc, ◌<◌, ◌^◌}
use Rattle.thermal.specs.Thermal.{RuleDomain}
use Rattle.frame.specs.Sheet.{Sheet, steady_of}
use Rattle.frame.specs.Run.{State}
use Rattle.run.specs.declared.Run.{Run}
use Rattle.store.specs.declared.Change.{Change}
use Rattle.run.specs.declared.Job.{Job}

-- The state that a run's struct holds: "The run is kept as one state that each job carries forward."
abbrev pub state_of : Run → State
state_of a =
    record {
      done = a.done;
      level = a.level;
      time = a.time;
      energy = a.energy;
      temperature = a.temperature;
      peak = a.peak;
    }

-- The numbers handed over are the sheet's: those of the next job at a level, and "those of the change from the level before".
pub record FiguresOf (s : Sheet) (a : Run) (level : ℕ) (change : Change) (job : Job) : Type 0 where
  pub change_time : change.time ≡ s.change_time a.level level
  pub change_energy : change.energy ≡ s.change_energy a.level level
  pub job_time : job.work.time ≡ s.job_time a.done level
  pub job_energy : job.work.energy ≡ s.job_energy a.done level
  pub steady : job.steady ≡ steady_of s level
  pub decay : job.work.decay ≡ s.decay a.done level

-- What a job's sums in 64 bits, its count in 32 and the thermal rule may rest on.
pub record Bounds (a : Run) (job : Job) : Type 0 where
  pub done : suc a.done < 2 ^ 32
  pub time : a.time < 2 ^ 63
  pub energy : a.energy < 2 ^ 63
  pub rule : RuleDomain a.temperature job.steady job.work.decay
