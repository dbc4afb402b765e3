-- A list of levels that is run on a sheet, by induction over its levels: how far the run has come, and that it stays small enough for
-- the next step.
-- Assumes nothing.
use mathlib.Core.Path.{◌≡◌, refl, ap}
use mathlib.Core.List.{List}
use Prim.Native.Nat.{ℕ, ◌+◌, ◌≤◌, ◌<◌}
use native.Mathlib.Numerals.{add-one}
use native.Mathlib.Omega.{arith}
use lib.ListN.{length, get_or, drop}
use lib.Seq.{drop-cons}
use Rattle.frame.specs.Sheet.{Sheet, Ranges}
use Rattle.frame.specs.Run.{State, start, change, job, step, exact_run}
use Rattle.store.specs.Store.{levels_max}
use Rattle.store.specs.declared.Store.{Store}
use Rattle.run.specs.Run.{state_of}
use Rattle.run.specs.declared.Run.{Run}
use Rattle.run.proofs.Small.{Grown, small_step}
use Rattle.step.specs.Store.{Stored, Begun}

-- i of a list's levels run, from the run `first`.
pub record Going (s : Sheet) (first : Run) (levels : List ℕ) (a : Run) (i : ℕ) : Type 0 where
  pub most : i ≤ length levels
  pub grown : Grown (state_of first) i (state_of a)
  pub level : a.level < levels_max
  pub rest : exact_run s (state_of a) (drop i levels) ≡ exact_run s (state_of first) levels

pub step_level : (s : Sheet) (a : State) (j : ℕ) → (step s a j).level ≡ j
unfolding step change job
step_level s a j = refl

-- One job more.
pub going_next : {s : Sheet} {first : Run} {levels : List ℕ} {a : Run} {i : ℕ} → Ranges s → Going s first levels a i → (next : Run) → i < length levels → get_or levels i 0 < levels_max →
    state_of next ≡ step s (state_of a) (get_or levels i 0) → Going s first levels next (i + 1)
going_next {s} {first} {levels} {a} {i} r g next l k e =
    record {
      most = omega arith;
      grown = rw (add-one, e) (small_step r (get_or levels i 0) g.grown);
      level = omega (arith, ap (λ (z : State). z.level) e, step_level s (state_of a) (get_or levels i 0));
      rest = rw (add-one, e) (rw (drop-cons levels i 0 l) at g.rest);
    }

-- A run of jobs from a sheet's start has what it rests on.
pub begun_start : {s : Sheet} {store : Store} {steady : List ℕ} {n : ℕ} (a : Run) → Ranges s → Stored s store steady → state_of a ≡ start s → n ≤ s.jobs → Begun a store steady n
begun_start {s} a r h e m =
    record {
      sheet = s;
      ranges = r;
      stored = h;
      done = omega (arith, ap (λ (z : State). z.done) e, r.jobs.high);
      level = omega (arith, ap (λ (z : State). z.level) e, r.start_level, r.levels.high);
      time = omega (arith, ap (λ (z : State). z.time) e);
      energy = omega (arith, ap (λ (z : State). z.energy) e);
      temperature = omega (arith, ap (λ (z : State). z.temperature) e, r.start_temperature);
    }
