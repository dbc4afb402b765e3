-- The store's figures are the sheet's, and so a step on a sheet in its ranges may rest on them; the steady-state temperatures, one level
-- at a time, are those of the definition.
-- Assumes nothing.
use mathlib.Core.Path.{◌≡◌, refl, ◌∙◌}
use mathlib.Core.List.{List}
use Prim.Native.Nat.{ℕ, ◌+◌, ◌≤◌, ◌<◌, ◌^◌}
use native.Mathlib.Omega.{arith}
use native.Mathlib.Decide.{dec_lt}
use lib.ListN.{length, get_or, set, length-set}
use lib.Seq.{get_or-set_same, get_or-set_other}
use Rattle.thermal.specs.Thermal.{steady_state, raised_temperature_max}
use Rattle.frame.specs.Sheet.{Sheet, Ranges}
use Rattle.frame.proofs.Tabulate.{get_d_tabulate, tabulated}
use Rattle.store.specs.declared.Head.{Head}
use Rattle.store.specs.Store.{jobs_max, levels_max}
use Rattle.store.specs.declared.Store.{Store}
use Rattle.store.specs.Figures.{power_at, sheet_of}
use Rattle.run.specs.declared.Run.{Run}
use Rattle.step.specs.Store.{steadies, Stored, Rests}

-- ---- a sheet that was read

pub figures_stored : {st : Store} {levels : List ℕ} {resistance : ℕ} → levels ≡ steadies st resistance → (h : Head) → h.resistance ≡ resistance → Stored (sheet_of h st) st levels
unfolding sheet_of steadies
figures_stored {st} e h q =
    record {
      change_time = λ p j hp hj. refl;
      change_energy = λ p j hp hj. refl;
      job_time = λ i j hi hj. refl;
      job_energy = λ i j hi hj. refl;
      decay = λ i j hi hj. refl;
      steady = λ j hj.
          let z : 0 + j ≡ j = omega arith in
          rw (e, ← q) (rw z at (get_d_tabulate (λ k. steady_state (power_at st k) h.resistance) 0 levels_max j hj));
    }

-- ---- the steady-state temperatures of the first n levels worked out

pub record Worked (store : Store) (resistance : ℕ) (levels : List ℕ) (n : ℕ) : Type 0 where
  pub long : length levels ≡ levels_max
  pub within : (j : ℕ) → j < n → get_or levels j 0 ≡ steady_state (power_at store j) resistance

pub worked_more : {store : Store} {resistance : ℕ} {levels : List ℕ} {n : ℕ} (v : ℕ) → n < levels_max → v ≡ steady_state (power_at store n) resistance →
    Worked store resistance levels n → Worked store resistance (set levels n v) (n + 1)
worked_more {levels = levels} {n = n} v l e w =
    record {
      long = length-set levels n v ∙ w.long;
      within = λ j h.
          elim (dec_lt j n) [
            | yes k ↦ get_or-set_other levels n j v 0 (λ q. absurd (omega arith)) ∙ w.within j k
            | no k ↦ let q : j ≡ n = omega arith in rw q (get_or-set_same levels n v 0 (omega (arith, w.long)) ∙ e)
          ];
    }

pub worked_all : {store : Store} {resistance : ℕ} {levels : List ℕ} {n : ℕ} → levels_max ≤ n → Worked store resistance levels n → levels ≡ steadies store resistance
unfolding steadies
worked_all {levels = levels} l w = tabulated _ levels_max levels w.long (λ i h. w.within i (omega arith))

-- ---- a step

pub rests : {s : Sheet} {store : Store} {steady : List ℕ} → Stored s store steady → (a : Run) (j : ℕ) → Ranges s → a.done < jobs_max → a.level < levels_max → j < levels_max → a.time < 2 ^ 63 →
    a.energy < 2 ^ 63 → a.temperature ≤ raised_temperature_max → Rests a store steady j
rests h a j r hi hp hj ht he hw =
    record {
      done = hi;
      level = hp;
      next = hj;
      time = ht;
      energy = he;
      rule =
          record {
            temperature_most = hw;
            steady_most = rw (h.steady j hj) (r.steady j);
            decay_most = rw (h.decay a.done j hi hj) (r.decay a.done j);
          };
    }
