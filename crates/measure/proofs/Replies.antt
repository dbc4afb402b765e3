-- Laws of the measuring call's reply: what each of its tests says, by the definition's own tests, and that a list it measures fits
-- the sheet.
-- Assumes nothing.
use mathlib.Core.Path.{◌≡◌, refl, sym}
use mathlib.Core.List.{List}
use Prim.Native.Nat.{ℕ, ◌^◌, ◌≤◌, ◌<◌}
use native.Mathlib.Omega.{arith}
use lib.IntN.{ℤ, sub_ℕ}
use lib.ListN.{length}
use borrow.Author.Tests.{lt-ltb, le-ltb, eq-eqb, ne_eqb}
use Rattle.frame.specs.Sheet.{Sheet, Ranges}
use Rattle.frame.specs.Run.{State, start, exact_run}
use Rattle.frame.specs.Limits.{margins}
use Rattle.frame.specs.Demands.{LevelList}
use Rattle.store.specs.declared.Store.{Store}
use Rattle.store.specs.Figures.{sheet_of}
use Rattle.run.proofs.Small.{small_start, small_run}
use Rattle.std.specs.Prelude.{Result, Ok, Err}
use Rattle.store.specs.declared.Head.{Head}
use Rattle.refusal.specs.declared.Refusal.{Refusal}
use Rattle.sheet.specs.Reading.{read_in, reading_of}
use Rattle.measure.specs.Measure.{first_above, refused_measured, measured_as, turned_away, measure_of}
use Rattle.measure.proofs.Levels.{none_below}

-- ---- how large the figures of a measured list can be

-- Each is a signed 64-bit number.
pub record Under (a : State) : Type 0 where
  pub time : a.time < 2 ^ 63
  pub energy : a.energy < 2 ^ 63
  pub temperature : a.temperature < 2 ^ 63
  pub peak : a.peak < 2 ^ 63

pub measured_under : {s : Sheet} {js : List ℕ} → Ranges s → LevelList s s.jobs js → Under (exact_run s (start s) js)
measured_under {s} {js} r w = omega (arith, small_run r js 0 (start s) (small_start r), r.jobs.high, w.size)

-- The reply that holds the margins of a run.
pub margins_hold : (s : Sheet) (js : List ℕ) (a : State) → a ≡ exact_run s (start s) js → (time energy temperature : ℤ) →
    time ≡ sub_ℕ s.deadline a.time → energy ≡ sub_ℕ s.energy_budget a.energy → temperature ≡ sub_ℕ s.temperature_limit a.peak →
    record { refusal = 0; line = 0; field = 0; time = time; energy = energy; temperature = temperature } ≡ measured_as (margins s js)
unfolding margins
margins_hold s js a h time energy temperature x y z = rw (x, y, z, h) refl

-- ---- the reply

module _ (t js : List ℕ) (r : Result Head Refusal) (st : Store) (e : read_in r st ≡ reading_of t) where
  pub measure_refused : (f : Refusal) → r ≡ Err f → turned_away f ≡ measure_of t js
  unfolding measure_of
  measure_refused f h = rw (sym e, h) refl

  module _ (h : Head) (n : r ≡ Ok h) where
    pub measure_length : (length js ≡ h.jobs → ⊥) → refused_measured 11 0 0 ≡ measure_of t js
    unfolding measure_of sheet_of
    measure_length o = rw (sym e, n, ne_eqb (length js) h.jobs o) refl

    module _ (m : length js ≡ h.jobs) where
      pub measure_level : (k : ℕ) → k ≡ first_above h.levels js → k < length js → refused_measured 12 0 k ≡ measure_of t js
      unfolding measure_of sheet_of
      measure_level k q l = rw (sym e, n, eq-eqb (length js) h.jobs m, sym q, lt-ltb k (length js) l) refl

      module _ (l : length js ≤ first_above h.levels js) where
        pub measure_given : measured_as (margins (sheet_of h st) js) ≡ measure_of t js
        unfolding measure_of sheet_of
        measure_given = rw (sym e, n, eq-eqb (length js) h.jobs m, le-ltb (first_above h.levels js) (length js) l) refl

        pub listed : let s = sheet_of h st in LevelList s s.jobs js
        unfolding sheet_of
        listed = record { size = m; below = none_below h.levels js l }
