-- The ways from a cell: the least of them, one more at a time, a step from a cell, and its three ends (over the energy budget, over the
-- temperature limit, within both).
-- Assumes nothing.
use mathlib.Core.Path.{◌≡◌, refl, sym, ap, ◌∙◌}
use Prim.Native.Nat.{ℕ, suc, ◌+◌, ◌≤◌, ◌<◌, min}
use native.Mathlib.Numerals.{add-one}
use native.Mathlib.Omega.{arith}
use borrow.Author.Tests.{le-leb, lt-leb}
use Rattle.frame.specs.Sheet.{Sheet}
use Rattle.frame.specs.Run.{State, change, job, step, raised}
use Rattle.frame.specs.Plan.{least_of, next, cost}
use Rattle.frame.specs.Demands.{infeasible}
use Rattle.table.specs.Table.{AtCell}

-- ---- the least of k numbers, one more at a time

pub least_more : (k : ℕ) (f : ℕ → ℕ) → least_of (k + 1) f ≡ min (least_of k f) (f k)
unfolding least_of
least_more k f = rw add-one refl

pub least_none : (f : ℕ → ℕ) → least_of 0 f ≡ infeasible
unfolding least_of
least_none f = refl

-- ---- a step from a cell

module _ (s : Sheet) where
  pub next_level : (a : State) (j : ℕ) → (next s a j).level ≡ j
  unfolding next step change job
  next_level a j = refl

  pub next_done : (a : State) (j : ℕ) → (next s a j).done ≡ suc a.done
  unfolding next step change job raised
  next_done a j = refl

  pub next_peak : (a : State) (j : ℕ) → (next s a j).temperature ≤ (next s a j).peak
  unfolding next step change job raised
  next_peak a j = omega arith

  -- From a cell a step raises nothing.
  pub next_at_cell : {a : State} (j : ℕ) → AtCell s a → next s a j ≡ step s a j
  unfolding next
  next_at_cell {a} j c = ap (λ (b : State). step s b j) (ap (raised s) (sym c.anew) ∙ c.up)

  -- ---- the three ends of a step

  pub cost_energy : (b : State) (r : ℕ) → s.energy_budget < b.energy → cost s b r ≡ infeasible
  unfolding cost
  cost_energy b r h = rw (lt-leb b.energy s.energy_budget h) refl

  pub cost_temperature : (b : State) (r : ℕ) → b.energy ≤ s.energy_budget → s.temperature_limit < b.peak → cost s b r ≡ infeasible
  unfolding cost
  cost_temperature b r u h = rw (le-leb b.energy s.energy_budget u, lt-leb b.peak s.temperature_limit h) refl

  pub cost_within : (b : State) (r : ℕ) → b.energy ≤ s.energy_budget → b.peak ≤ s.temperature_limit → cost s b r ≡ min infeasible (b.time + r)
  unfolding cost
  cost_within b r u h = rw (le-leb b.energy s.energy_budget u, le-leb b.peak s.temperature_limit h) refl
