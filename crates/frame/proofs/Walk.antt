-- The plan from a state, one level at a time: its first level, and the plan from the cell to which that job's end is raised.
-- Assumes nothing.
use mathlib.Core.Path.{◌≡◌, refl, sym, ap, ap₂, fun_ext, ◌∙◌}
use mathlib.Core.List.{List, ◌∷◌}
use Prim.Native.Nat.{ℕ, zero, suc, ◌-◌, ◌≤◌, ◌<◌, min}
use native.Mathlib.Omega.{arith}
use Rattle.thermal.specs.Rounding.{raise}
use Rattle.thermal.proofs.Rounding.{raise_twice}
use Rattle.frame.specs.Sheet.{Sheet, Ranges}
use Rattle.frame.specs.Run.{State, fresh, change, job, step, raised}
use Rattle.frame.specs.Plan.{least_of, first_within, next, cost, via, least, choice, plan}
use Rattle.frame.specs.Demands.{infeasible}
use Rattle.frame.proofs.Plan.{least_of_le, first_within_most, cost_le, cost_lt}

-- The first small enough of k numbers depends on those k alone.
pub first_same : (k : ℕ) (f g : ℕ → ℕ) (x : ℕ) → ((j : ℕ) → j < k → f j ≡ g j) → (least_of k f ≡ least_of k g) × (first_within k f x ≡ first_within k g x)
unfolding least_of first_within
first_same zero f g x h = (refl, refl)
first_same (suc k) f g x h =
    let r = first_same k f g x (λ j l. h j (omega arith)) in
    (ap₂ min r.0 (h k (omega arith)), cc (r.0, r.1))

-- Two states that are raised to the same cell.
pub record Alike (s : Sheet) (a b : State) : Type 0 where
  pub done : a.done ≡ b.done
  pub level : a.level ≡ b.level
  pub energy : raise s.energy_step a.energy ≡ raise s.energy_step b.energy
  pub temperature : raise s.temperature_step a.temperature ≡ raise s.temperature_step b.temperature

module _ (s : Sheet) where
  next_alike : {a b : State} → Alike s a b → (j : ℕ) → next s a j ≡ next s b j
  unfolding next raised
  next_alike h j = rw (h.done, h.level, h.energy, h.temperature) refl

  step_alike : {a b : State} → Alike s a b → (j : ℕ) → Alike s (step s (raised s a) j) (step s (raised s b) j)
  unfolding step change job raised
  step_alike h j = record { done = ap suc h.done; level = refl; energy = rw (h.done, h.level, h.energy) refl; temperature = rw (h.done, h.temperature) refl }

  -- They have the same least time and the same choice.
  via_alike : (n : ℕ) {a b : State} → Alike s a b → via s (least s n) a ≡ via s (least s n) b
  unfolding via
  via_alike n h = fun_ext (λ j. ap (λ (c : State). cost s c (least s n c)) (next_alike h j))

  pub least_alike : (n : ℕ) {a b : State} → Alike s a b → least s n a ≡ least s n b
  unfolding least
  least_alike zero h = refl
  least_alike (suc n) h = ap (least_of s.levels) (via_alike n h)

  pub choice_alike : (n : ℕ) {a b : State} (x : ℕ) → Alike s a b → choice s n a x ≡ choice s n b x
  unfolding choice
  choice_alike zero x h = refl
  choice_alike (suc n) {a} {b} x h =
      let j = first_within s.levels (via s (least s n) b) x in
      rw (via_alike n h)
      (ap (λ (js : List ℕ). j ∷ js)
      (choice_alike n (x - (next s a j).time) (step_alike h j) ∙ ap (λ (c : State). choice s n (step s (raised s b) j) (x - c.time)) (next_alike h j)))

  pub plan_alike : (n : ℕ) {a b : State} → Alike s a b → plan s n a ≡ plan s n b
  unfolding plan
  plan_alike n {a} {b} h = choice_alike n (least s n a) h ∙ ap (choice s n b) (least_alike n h)

  -- A state and the cell to which it is raised.
  pub alike_cell : Ranges s → (b : State) → Alike s b (fresh b.done b.level (raise s.energy_step b.energy) (raise s.temperature_step b.temperature))
  alike_cell ok b =
      record {
        done = refl;
        level = refl;
        energy = sym (raise_twice s.energy_step b.energy ok.energy_step.low);
        temperature = sym (raise_twice s.temperature_step b.temperature ok.temperature_step.low);
      }

  -- Where there is a way for r + 1 jobs, the plan's first level: it stays within the limits, and the plan goes on from where
  -- its job ends.
  pub record Goes (r : ℕ) (a : State) (j : ℕ) : Type 0 where
    pub level : j < s.levels
    pub energy : (next s a j).energy ≤ s.energy_budget
    pub peak : (next s a j).peak ≤ s.temperature_limit
    pub alive : least s r (next s a j) < infeasible
    pub rest : plan s (suc r) a ≡ j ∷ plan s r (next s a j)

  alike_next : (a : State) (j : ℕ) → Alike s (step s (raised s a) j) (next s a j)
  unfolding next step change job raised
  alike_next a j = record { done = refl; level = refl; energy = refl; temperature = refl }

  pub goes : (r : ℕ) (a : State) → least s (suc r) a < infeasible → Goes r a (first_within s.levels (via s (least s r) a) (least s (suc r) a))
  unfolding least plan choice via
  goes r a h =
      let x = least s (suc r) a in
      let f = via s (least s r) a in
      let j = first_within s.levels f x in
      let b = next s a j in
      let q = first_within_most f x h s.levels (omega arith) in
      let u = cost_lt s b (least s r b) x h q.1 in
      let z : x - b.time ≡ least s r b =
      omega (arith, u.2, least_of_le s.levels f j q.0, cost_le s b (least s r b) u.0 u.1) in
      record {
        level = q.0;
        energy = u.0;
        peak = u.1;
        alive = omega (arith, u.2);
        rest = ap (λ (js : List ℕ). j ∷ js) (choice_alike r (x - b.time) (alike_next a j) ∙ ap (choice s r b) z);
      }
