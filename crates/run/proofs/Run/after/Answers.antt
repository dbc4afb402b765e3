-- `Run::after` meets its contract: on every sheet whose figures it is handed, it is the step of the state.
-- Assumes nothing.
use mathlib.Core.Path.{◌≡◌}
use Prim.Native.Nat.{ℕ, ◌+◌, max}
use native.Mathlib.Numerals.{add-one}
use Rattle.thermal.specs.Thermal.{temperature_after}
use Rattle.frame.specs.Sheet.{Sheet}
use Rattle.frame.specs.Run.{State, change, job, step}
use Rattle.run.specs.declared.Run.{Run}
use Rattle.store.specs.declared.Change.{Change}
use Rattle.run.specs.declared.Job.{Job}
use Rattle.run.specs.Run.{state_of, FiguresOf}
use Rattle.run.proofs.Run.after.Goals as goal

-- what the code works out, with the temperature t and the peak p, is the step
worked : {s : Sheet} {a : Run} {level t p : ℕ} {c : Change} {b : Job} → FiguresOf s a level c b →
    t ≡ temperature_after a.temperature b.steady b.work.decay → p ≡ max a.peak t →
    ◌≡◌ {A = State}
    (record {
      done = a.done + 1;
      level = level;
      time = a.time + c.time + b.work.time;
      energy = a.energy + c.energy + b.work.energy;
      temperature = t;
      peak = p;
    })
    (step s (state_of a) level)
unfolding step change job
worked {a = a} f q r = cc (add-one a.done)

pub returns : goal.returns
returns c = λ s f. worked f c.temperature_after-temperature.ensures c.max.ensures
