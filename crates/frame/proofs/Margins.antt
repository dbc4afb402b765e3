-- "A negative margin is a broken limit, 0 is met": of each margin, and of the three together, which are the sheet's limits
-- after every job.
-- Assumes nothing.
use mathlib.Core.Logic.{◌↔◌}
use mathlib.Core.List.{List, [], ◌∷◌}
use Prim.Native.Nat.{ℕ, ◌-◌, ◌≤◌}
use native.Mathlib.Decide.{dec_lt}
use native.Mathlib.Omega.{arith}
use lib.Dec.{le→leb}
use lib.IntN.{pos, sub_ℕ}
use lib.Signed.{◌≤ℤ◌}
use borrow.Author.Tests.{lt-ltb, le-ltb}
use Rattle.frame.specs.Sheet.{Sheet}
use Rattle.frame.specs.Run.{State, start, change, job, step, exact, exact_run}
use Rattle.frame.specs.Limits.{Within, Meets, limits, margins}

not_negative : (a b : ℕ) → (pos 0 ≤ℤ sub_ℕ a b) ↔ (b ≤ a)
not_negative a b =
    elim (dec_lt a b) [
      | yes l ↦ rw (lt-ltb a b l) ((λ h. absurd h.le), (λ h. absurd (omega arith)))
      | no l ↦ rw (le-ltb a b (omega arith)) ((λ h. omega arith), (λ h. record { le = le→leb 0 (a - b) (omega arith) }))
    ]

module _ (s : Sheet) where
  -- Time, energy and peak never fall.
  run_grows : (js : List ℕ) (a : State) →
      (a.time ≤ (exact_run s a js).time) × (a.energy ≤ (exact_run s a js).energy) × (a.peak ≤ (exact_run s a js).peak)
  unfolding step change job
  run_grows [] a = omega arith
  run_grows (j ∷ js) a = let h = run_grows js (step s a j) in omega arith

  -- A list meets the limits after every job exactly where its end does.
  meets_end : (js : List ℕ) (a : State) → Within (limits s) (exact_run s a js) → Meets s exact (limits s) a js
  meets_end [] a w = tt
  meets_end (j ∷ js) a w = let h = run_grows js (step s a j) in (omega arith, meets_end js (step s a j) w)

  end_meets : (js : List ℕ) (a : State) → Within (limits s) a → Meets s exact (limits s) a js → Within (limits s) (exact_run s a js)
  end_meets [] a w m = w
  end_meets (j ∷ js) a w m = end_meets js (step s a j) m.0 m.1

  -- Each margin by itself.
  pub margins_met : (js : List ℕ) →
      ((pos 0 ≤ℤ (margins s js).time) ↔ ((exact_run s (start s) js).time ≤ s.deadline)) ×
      ((pos 0 ≤ℤ (margins s js).energy) ↔ ((exact_run s (start s) js).energy ≤ s.energy_budget)) ×
      ((pos 0 ≤ℤ (margins s js).temperature) ↔ ((exact_run s (start s) js).peak ≤ s.temperature_limit))
  unfolding margins
  margins_met js =
      let b = exact_run s (start s) js in
      (not_negative s.deadline b.time, not_negative s.energy_budget b.energy, not_negative s.temperature_limit b.peak)

  -- All three together: the list meets the sheet's limits after every job.
  pub margins_meet : (js : List ℕ) →
      ((pos 0 ≤ℤ (margins s js).time) × (pos 0 ≤ℤ (margins s js).energy) × (pos 0 ≤ℤ (margins s js).temperature)) ↔ Meets s exact (limits s) (start s) js
  margins_meet js =
      let e = margins_met js in (
        λ m. meets_end js (start s) (record { time = e.0.0 m.0; energy = e.1.0 m.1; temperature = e.2.0 m.2 }),
        λ m. let w = end_meets js (start s) (omega arith) m in (e.0.1 w.time, e.1.1 w.energy, e.2.1 w.temperature),
      )
