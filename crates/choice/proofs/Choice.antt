-- The first of the least, one level more at a time; a way by a table that holds the words of one more job done is the way by the least
-- time; and the three ends of a step (over the energy budget, over the temperature limit, within both).
-- Assumes nothing.
use mathlib.Core.Path.{◌≡◌, refl, sym, ap, ◌∙◌}
use mathlib.Core.List.{List}
use Prim.Native.Nat.{ℕ, suc, ◌+◌, ◌-◌, ◌≤◌, ◌<◌, min}
use native.Mathlib.Numerals.{add-one}
use native.Mathlib.Omega.{arith}
use native.Mathlib.Decide.{dec_le}
use borrow.Author.Tests.{le-leb, lt-leb}
use Rattle.std.proofs.lemmas.Bool.Decides.{nat_tests}
use Rattle.frame.specs.Sheet.{Sheet, Ranges, job_most}
use Rattle.frame.specs.Run.{State, change, job, step}
use Rattle.frame.specs.Plan.{least_of, first_within, next, cost, via, least}
use Rattle.frame.specs.Demands.{infeasible}
use Rattle.frame.specs.Table.{need}
use Rattle.run.specs.Run.{state_of}
use Rattle.run.specs.declared.Run.{Run}
use Rattle.table.specs.declared.axes.Frame.{Frame}
use Rattle.table.specs.Table.{Axes, AtCell, Holds, head_axes}
use Rattle.table.proofs.Ways.{next_level, next_done, next_peak, next_at_cell, cost_energy, cost_temperature, cost_within}
use Rattle.lookup.specs.Lookup.{rest_by, rest_in, Looks}
use Rattle.lookup.proofs.Lookup.{same_axes, rest_is, rest_least, looks}

-- ---- the first of the least

-- One number more: it is the first of the least where it is less than all before it, and else the first stays.
module _ (f : ℕ → ℕ) (k : ℕ) where
  pub first_less : f k < least_of k f → first_within (k + 1) f (least_of (k + 1) f) ≡ k
  unfolding first_within least_of
  first_less h =
      let m : min (least_of k f) (f k) ≡ f k = omega arith in
      rw (add-one, m, lt-leb (least_of k f) (f k) h) refl

  pub first_kept : least_of k f ≤ f k → first_within (k + 1) f (least_of (k + 1) f) ≡ first_within k f (least_of k f)
  unfolding first_within least_of
  first_kept h =
      let m : min (least_of k f) (f k) ≡ least_of k f = omega arith in
      rw (add-one, m, le-leb (least_of k f) (least_of k f) (omega arith)) refl

pub first_none : (f : ℕ → ℕ) → first_within 0 f (least_of 0 f) ≡ 0
unfolding first_within
first_none f = refl

-- ---- a table that holds words

module _ (s : Sheet) where
  -- What comes after a step counts within the limits alone.
  pub cost_same : (b : State) (x y : ℕ) → (b.energy ≤ s.energy_budget → b.peak ≤ s.temperature_limit → x ≡ y) → cost s b x ≡ cost s b y
  cost_same b x y h =
      elim (dec_le b.energy s.energy_budget) [
        | yes u ↦
            elim (dec_le b.peak s.temperature_limit) [
              | yes v ↦ ap (cost s b) (h u v)
              | no v ↦ cost_temperature s b x u (omega arith) ∙ sym (cost_temperature s b y u (omega arith))
            ]
        | no u ↦ cost_energy s b x (omega arith) ∙ sym (cost_energy s b y (omega arith))
      ]

-- No way takes more than 4,294,967,295 says.
pub via_most : (s : Sheet) (rest : State → ℕ) (a : State) (j : ℕ) → via s rest a j ≤ infeasible
unfolding via cost
via_most s rest a j = grind (arith, nat_tests)

module _ {s : Sheet} (ok : Ranges s) {t : List ℕ} (a : State) (h : Holds s t (suc a.done)) where
  -- A way by the table is the way by the least time of the jobs after it.
  pub way_least : (j : ℕ) → j < s.levels → via s (rest_by s t) a j ≡ via s (least s (s.jobs - suc a.done)) a j
  unfolding via
  way_least j l =
      cost_same s (next s a j) _ _
      (λ u v.
      rest_least ok (next s a j) (rw (next_done s a j) h) (rw (next_level s a j) l) u (omega (arith, next_peak s a j))
      ∙ ap (λ (i : ℕ). least s (s.jobs - i) (next s a j)) (next_done s a j))

-- ---- the three ends of a step

module _ {s : Sheet} {f : Frame} (x : Axes s f) {a : State} (c : AtCell s a) {j : ℕ} (l : j < s.levels) (b : Run) (e : state_of b ≡ step s a j) where
  after_cell : state_of b ≡ next s a j
  after_cell = e ∙ sym (next_at_cell s j c)

  pub way_short : b.time ≤ job_most
  unfolding step change job
  way_short =
      omega (
        arith,
        ap (λ (z : State). z.time) e,
        ap (λ (z : State). z.time) c.anew,
        x.ranges.change_time a.level j,
        x.ranges.job_time a.done j,
      )

  pub way_energy : (rest : State → ℕ) → f.head.energy_budget < b.energy → infeasible ≡ via s rest a j
  unfolding via
  way_energy rest h = sym (rw (← after_cell) (cost_energy s (state_of b) _ (omega (arith, x.energy_budget))))

  pub way_temperature : (rest : State → ℕ) → b.energy ≤ f.head.energy_budget → f.head.temperature_limit < b.peak → infeasible ≡ via s rest a j
  unfolding via
  way_temperature rest u h =
      sym (rw (← after_cell) (cost_temperature s (state_of b) _ (omega (arith, x.energy_budget)) (omega (arith, x.temperature_limit))))

  module _ (u : b.energy ≤ f.head.energy_budget) (v : b.peak ≤ f.head.temperature_limit) where
    pub way_within : (t : List ℕ) (r : ℕ) → r ≡ rest_in (head_axes f) t b → min infeasible (b.time + r) ≡ via s (rest_by s t) a j
    unfolding via
    way_within t r q =
        rw (← after_cell, q, rest_is (same_axes x) b t)
        (sym (cost_within s (state_of b) (rest_by s t (state_of b)) (omega (arith, x.energy_budget)) (omega (arith, x.temperature_limit))))

    way_level : b.level ≡ j
    way_level = ap (λ (z : State). z.level) after_cell ∙ next_level s a j

    way_cool : b.temperature ≤ s.temperature_limit
    way_cool =
        omega (
          arith,
          ap (λ (z : State). z.temperature) after_cell,
          ap (λ (z : State). z.peak) after_cell,
          next_peak s a j,
          x.temperature_limit,
        )

    pub way_looks : {n : ℕ} → need s ≤ n → b.done < f.head.jobs → Looks (head_axes f) b n
    way_looks h d = looks (same_axes x) x.ranges x.allowed b (rw way_level l) (omega (arith, x.energy_budget)) way_cool h d
