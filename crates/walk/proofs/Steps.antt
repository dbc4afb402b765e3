-- Following a filled table: the levels written so far are the plan's, as the level that the table gives is the plan's first, and the
-- cell to which the job's end is raised has the rest of the plan.
-- Assumes nothing.
use mathlib.Core.Path.{◌≡◌, refl, sym, ap, ◌∙◌}
use mathlib.Core.List.{List, [], ◌∷◌, ◌++◌, append_assoc, append-nil}
use Prim.Native.Nat.{ℕ, suc, ◌+◌, ◌-◌, ◌≤◌, ◌<◌}
use native.Mathlib.Numerals.{add-one}
use native.Mathlib.Omega.{arith}
use lib.ListN.{length, set, take, length-set}
use lib.Seq.{take-suc-set, take-length}
use Rattle.std.proofs.lemmas.List.{length-take}
use Rattle.thermal.specs.Rounding.{raise}
use Rattle.frame.specs.Sheet.{Sheet, Ranges}
use Rattle.frame.specs.Run.{State, fresh, step}
use Rattle.frame.specs.Plan.{least_of, first_within, next, via, least, choice, plan}
use Rattle.frame.specs.Demands.{infeasible}
use Rattle.frame.proofs.Table.{energy_cell, temperature_cell}
use Rattle.frame.proofs.Walk.{first_same, alike_cell, least_alike, plan_alike, Goes, goes}
use Rattle.run.specs.Run.{state_of}
use Rattle.run.specs.declared.Run.{Run}
use Rattle.store.specs.declared.Store.{Store}
use Rattle.table.specs.declared.axes.Frame.{Frame}
use Rattle.step.specs.Store.{Rests}
use Rattle.step.proofs.Store.{rests}
use Rattle.table.specs.Table.{Axes, Framed, AtCell, Holds}
use Rattle.table.proofs.Cells.{at_cell}
use Rattle.table.proofs.Ways.{next_level, next_done, next_peak, next_at_cell}
use Rattle.lookup.specs.Lookup.{rest_by}
use Rattle.choice.specs.Choice.{level_by}
use Rattle.choice.proofs.Choice.{way_least}
use Rattle.walk.specs.Walk.{Starts}

-- ---- the cell at which the walk stands

abbrev pub cell_of : Sheet → State → State
cell_of s b = fresh b.done b.level (raise s.energy_step b.energy) (raise s.temperature_step b.temperature)

module _ {s : Sheet} (ok : Ranges s) where
  -- A state within the limits that has a job to do is raised to a cell.
  raised_at : (b : State) → b.done < s.jobs → b.level < s.levels → b.energy ≤ s.energy_budget → b.temperature ≤ s.temperature_limit → AtCell s (cell_of s b)
  unfolding raise
  raised_at b d l u v = at_cell s ok b.done b.level _ _ d l (energy_cell s ok b.energy u) (temperature_cell s ok b.temperature v)

  -- The level that the table gives is the plan's.
  pub chosen : (t : List ℕ) (a : State) (r : ℕ) → Holds s t (suc a.done) → a.done + suc r ≡ s.jobs → least s (suc r) a < infeasible →
      (j : ℕ) → j ≡ level_by s t a → Goes s r a j
  unfolding least
  chosen t a r h e l j q =
      let n : s.jobs - suc a.done ≡ r = omega arith in
      let same : (k : ℕ) → k < s.levels → via s (rest_by s t) a k ≡ via s (least s r) a k = λ k m. way_least ok a h k m ∙ ap (λ (z : ℕ). via s (least s z) a k) n in
      let x = least_of s.levels (via s (rest_by s t) a) in
      let y = first_same s.levels (via s (rest_by s t) a) (via s (least s r) a) x same in
      rw (q ∙ y.1 ∙ ap (first_within s.levels (via s (least s r) a)) y.0) (goes s r a l)

-- ---- raising, by the axes that the code has

module _ {s : Sheet} {f : Frame} (x : Axes s f) (b : Run) where
  pub raised_cell : (c : State) → c ≡ fresh b.done b.level (raise f.head.energy_step b.energy) (raise f.head.temperature_step b.temperature) →
      c ≡ cell_of s (state_of b)
  raised_cell c e = rw (← x.energy_step, ← x.temperature_step) e

-- ---- a step from a cell

-- What the next job of a cell rests on, at a level of the sheet.
pub cell_rests : {s : Sheet} {f : Frame} {store : Store} {steady : List ℕ} → Framed s f store steady → (a : Run) → AtCell s (state_of a) → (j : ℕ) → j < s.levels → Rests a store steady j
cell_rests w a at j l =
    let ok = w.axes.ranges in
    rests w.stored a j ok (omega (arith, at.done, ok.jobs.high)) (omega (arith, at.level, ok.levels.high)) (omega (arith, l, ok.levels.high)) (omega (arith, ap (λ (z : State). z.time) at.anew)) (omega (arith, at.energy)) at.temperature

-- ---- how far the walk has come: the first i of n levels written

pub record Going (s : Sheet) (start : State) (n : ℕ) (levels : List ℕ) (i : ℕ) (a : State) : Type 0 where
  pub most : i ≤ n
  pub long : length levels ≡ n
  pub count : a.done + (n - i) ≡ s.jobs
  pub at : i < n → AtCell s a
  pub alive : least s (n - i) a < infeasible
  pub done : take i levels ++ plan s (n - i) a ≡ plan s n start

-- A place among the first n is below n.
pub within : {n i : ℕ} (part : List ℕ) → i < length (take n part) → i < n
within {n} {i} part h = omega (arith, h, length-take n part)

module _ {s : Sheet} (ok : Ranges s) where
  -- The cell to which the start is raised: it has the start's plan.
  pub starts_at : {start a : State} → Starts s start → a ≡ cell_of s start → AtCell s a
  starts_at {start} w e = rw e (raised_at ok start w.done w.level w.energy w.temperature)

  pub starts_plan : (start : State) {a : State} (n : ℕ) → a ≡ cell_of s start → plan s n a ≡ plan s n start
  starts_plan start n e = rw e (sym (plan_alike s n (alike_cell s ok start)))

  pub starts_way : {start a : State} (n : ℕ) → Starts s start → a ≡ cell_of s start → n ≡ s.jobs - start.done → least s n a < infeasible
  starts_way {start} n w e m = rw (e, ← least_alike s n (alike_cell s ok start), m) w.way

  pub going_start : (a : State) (n : ℕ) (levels : List ℕ) → length levels ≡ n → a.done + n ≡ s.jobs → AtCell s a → least s n a < infeasible → Going s a n levels 0 a
  going_start a n levels k m c l =
      let z : n - 0 ≡ n = omega arith in
      record { most = omega arith; long = k; count = rw z m; at = λ h. c; alive = rw z l; done = rw z refl }

  module _ {start : State} {n : ℕ} {levels : List ℕ} {i : ℕ} {a : State} (g : Going s start n levels i a) (l : i < n) (t : List ℕ)
      (h : Holds s t (suc a.done)) (j : ℕ) (q : j ≡ level_by s t a) where
    one_left : n - i ≡ suc (n - (i + 1))
    one_left = omega arith

    pub going_level : Goes s (n - (i + 1)) a j
    going_level = chosen ok t a (n - (i + 1)) h (omega (arith, g.count)) (rw one_left at g.alive) j q

    -- The job that follows, and the cell to which its end is raised.
    pub going_next : (b c : State) → b ≡ step s a j → c ≡ cell_of s b → Going s start n (set levels i j) (i + 1) c
    going_next b c e d =
        let w = going_level in
        let x : b ≡ next s a j = e ∙ sym (next_at_cell s j (g.at l)) in
        let y = alike_cell s ok b in
        let k : b.done ≡ suc a.done = ap (λ (z : State). z.done) x ∙ next_done s a j in
        let on : plan s (n - i) a ≡ j ∷ plan s (n - (i + 1)) c =
        rw one_left w.rest ∙ ap (λ (z : State). j ∷ plan s (n - (i + 1)) z) (sym x) ∙ ap (λ (js : List ℕ). j ∷ js) (plan_alike s (n - (i + 1)) y ∙ ap (plan s (n - (i + 1))) (sym d)) in
        record {
          most = omega arith;
          long = length-set levels i j ∙ g.long;
          count = rw d (omega (arith, k, g.count));
          at = λ m.
              rw d
              (raised_at ok b (omega (arith, k, g.count)) (rw (ap (λ (z : State). z.level) x ∙ next_level s a j) w.level) (rw x w.energy) (rw x (omega (arith, next_peak s a j, w.peak))));
          alive = rw (d, ← least_alike s (n - (i + 1)) y, x) w.alive;
          done =
              ap (λ (js : List ℕ). js ++ plan s (n - (i + 1)) c) (ap (λ (m : ℕ). take m (set levels i j)) (add-one i) ∙ take-suc-set levels i j (omega (arith, g.long)))
              ∙ append_assoc (take i levels) (j ∷ []) (plan s (n - (i + 1)) c)
              ∙ ap (λ (js : List ℕ). take i levels ++ js) (sym on)
              ∙ g.done;
        }

  pub going_end : {start : State} {n : ℕ} {levels : List ℕ} {i : ℕ} {a : State} → n ≤ i → Going s start n levels i a → levels ≡ plan s n start
  unfolding plan choice
  going_end {start} {n} {levels} {i} {a} h g =
      let z : n - i ≡ 0 = omega arith in
      let d : take i levels ++ [] ≡ plan s n start = rw z at g.done in
      let e : length levels ≡ i = omega (arith, h, g.most, g.long) in
      sym (take-length levels) ∙ ap (λ (m : ℕ). take m levels) e ∙ sym (append-nil (take i levels)) ∙ d
