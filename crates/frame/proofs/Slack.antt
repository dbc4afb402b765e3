-- The two runs beside each other: the exact run lies nowhere above the rounded run, and the rounded run not far above it.
-- Both are one law, `near_meets`, over what comes before each job. The thermal rule enters by its monotonicity and its slack
-- alone.
-- Assumes nothing.
use mathlib.Core.Path.{◌≡◌, refl, ap}
use mathlib.Core.List.{List, [], ◌∷◌}
use Prim.Native.Nat.{ℕ, ◌+◌, ◌*◌, ◌-◌, ◌≤◌}
use native.Mathlib.Omega.{arith}
use lib.ListN.{length}
use Rattle.thermal.proofs.Rounding.{raise_ge, raise_le, raise_mono, raise_zero}
use Rattle.thermal.proofs.Thermal.{rule_nonexpansive}
use Rattle.frame.specs.Sheet.{Sheet, Ranges, steady_of}
use Rattle.frame.specs.Run.{State, fresh, change, job, step, exact, raised, run, exact_run, rounded_run}
use Rattle.frame.specs.Limits.{Limits, Within, Meets}
use Rattle.frame.proofs.Limits.{at_most_less, Tighter, tighter_same, tighter_less}

-- b has done the same jobs as a, at the same level and no later, with at most e more energy and t more temperature. For 0
-- and 0 it lies nowhere above a.
pub record Near (e t : ℕ) (a b : State) : Type 0 where
  pub done : b.done ≡ a.done
  pub level : b.level ≡ a.level
  pub time : b.time ≤ a.time
  pub energy : b.energy ≤ a.energy + e
  pub temperature : b.temperature ≤ a.temperature + t
  pub peak : b.peak ≤ a.peak + t

pub near_self : (a : State) → Near 0 0 a a
near_self a = omega arith

within_near : (e t : ℕ) (k k' : Limits) (a b : State) → Tighter e t k k' → Near e t a b → Within k' a → Within k b
within_near e t k k' a b c h w =
    record {
      time = at_most_less b.time a.time k.time h.time (c.time a.time w.time);
      energy = at_most_less b.energy (a.energy + e) k.energy h.energy (c.energy a.energy w.energy);
      temperature = at_most_less b.peak (a.peak + t) k.temperature h.peak (c.temperature a.peak w.temperature);
    }

module _ (s : Sheet) (ok : Ranges s) where
  near_change : (e t : ℕ) (a b : State) (j : ℕ) → Near e t a b → Near e t (change s a j) (change s b j)
  unfolding change
  near_change e t a b j h =
      omega (arith, ap (λ (p : ℕ). s.change_time p j) h.level, ap (λ (p : ℕ). s.change_energy p j) h.level)

  -- Job i at level j.
  near_job : (e t i j : ℕ) (a b : State) → a.done ≡ i → a.level ≡ j → Near e t a b → Near e t (job s a) (job s b)
  unfolding job
  near_job e t i j a b d l h =
      let d' : b.done ≡ i = omega arith in
      let l' : b.level ≡ j = omega arith in
      rw (d, l, d', l')
      (let f = rule_nonexpansive (steady_of s j) (s.decay i j) (ok.decay i j) in
      let m = f.mono b.temperature (a.temperature + t) h.temperature in
      let k = f.slack a.temperature t in
      omega arith)

  pub near_step : (e t : ℕ) (a b : State) (j : ℕ) → Near e t a b → Near e t (step s a j) (step s b j)
  unfolding step change
  near_step e t a b j h = near_job e t a.done j (change s a j) (change s b j) refl refl (near_change e t a b j h)

  -- Two runs, with r and q before each job. While the second lies at most E and T above the first, q adds at most u and v to
  -- that. What the first run meets of limits that are tighter by E and T, the second meets of the limits.
  module _ (k k' : Limits) (E T : ℕ) (c : Tighter E T k k') (r q : State → State) (u v : ℕ)
      (f : (e t : ℕ) (a b : State) → e ≤ E → t ≤ T → Near e t a b → Near (e + u) (t + v) (r a) (q b)) where
    pub near_meets : (js : List ℕ) (e t : ℕ) (a b : State) → e + length js * u ≤ E → t + length js * v ≤ T → Near e t a b →
        Meets s r k' a js → Meets s q k b js
    near_meets [] e t a b x y h w = tt
    near_meets (j ∷ js) e t a b x y h w =
        let h' = near_step (e + u) (t + v) (r a) (q b) j (f e t a b (omega arith) (omega arith) h) in (
          within_near (e + u) (t + v) k k' _ _ (tighter_less (e + u) E (t + v) T k k' (omega arith) (omega arith) c) h' w.0,
          near_meets js (e + u) (t + v) _ _ (omega arith) (omega arith) h' w.1,
        )

  -- ---- the exact run lies nowhere above the rounded run

  below_raised : (e t : ℕ) (a b : State) → e ≤ 0 → t ≤ 0 → Near e t a b → Near (e + 0) (t + 0) (raised s a) b
  unfolding raised
  below_raised e t a b x y h =
      omega (arith, raise_ge s.energy_step a.energy ok.energy_step.low, raise_ge s.temperature_step a.temperature ok.temperature_step.low)

  -- A list that meets limits when rounded meets them in the exact run, after every job.
  pub rounded_sound : (k : Limits) (js : List ℕ) (a : State) → Meets s (raised s) k a js → Meets s exact k a js
  rounded_sound k js a w =
      near_meets k k 0 0 (tighter_same k) (raised s) exact 0 0 below_raised js 0 0 a a (omega arith) (omega arith) (near_self a) w

  -- ---- the rounded run lies at most one raise for each job above the exact run

  above_raised : (e t : ℕ) (a b : State) → Near e t a b → Near (e + (s.energy_step - 1)) (t + (s.temperature_step - 1)) a (raised s b)
  unfolding raised
  above_raised e t a b h = omega (arith, raise_le s.energy_step b.energy, raise_le s.temperature_step b.temperature)

  -- At the start energy is 0 and is not raised.
  above_start : (i p t : ℕ) → Near 0 (s.temperature_step - 1) (fresh i p 0 t) (raised s (fresh i p 0 t))
  unfolding raised
  above_start i p t = omega (arith, raise_zero s.energy_step ok.energy_step.low, raise_le s.temperature_step t)

  -- A list that meets, in the exact run, limits tightened by one raise of the temperature for each job and one of the energy
  -- for each job but the first meets the limits when rounded.
  pub tighter_keeps : (k k' : Limits) (E T : ℕ) → Tighter E T k k' → (i p t j : ℕ) (js : List ℕ) →
      length js * (s.energy_step - 1) ≤ E → length (j ∷ js) * (s.temperature_step - 1) ≤ T →
      Meets s exact k' (fresh i p 0 t) (j ∷ js) → Meets s (raised s) k (fresh i p 0 t) (j ∷ js)
  tighter_keeps k k' E T c i p t j js x y w =
      let u = s.energy_step - 1 in
      let v = s.temperature_step - 1 in
      let h = near_step 0 v (fresh i p 0 t) (raised s (fresh i p 0 t)) j (above_start i p t) in (
        within_near 0 v k k' _ _ (tighter_less 0 E v T k k' (omega arith) (omega arith) c) h w.0,
        near_meets k k' E T c exact (raised s) u v (λ e d a b _ _ n. above_raised e d a b n) js 0 v _ _ (omega arith) (omega arith) h w.1,
      )

  -- From any state: one raise of the energy more, of what is read.
  pub left_keeps : (k k' : Limits) (js : List ℕ) (a : State) →
      Tighter (length js * (s.energy_step - 1)) (length js * (s.temperature_step - 1)) k k' → Meets s exact k' a js → Meets s (raised s) k a js
  left_keeps k k' js a c w =
      near_meets k k' _ _ c exact (raised s) (s.energy_step - 1) (s.temperature_step - 1) (λ e d x y _ _ n. above_raised e d x y n) js 0 0 a a (omega arith) (omega arith) (near_self a) w

  -- ---- a run from what is read, nowhere above

  both_raised : (e t : ℕ) (a b : State) → e ≤ 0 → t ≤ 0 → Near e t a b → Near (e + 0) (t + 0) (raised s a) (raised s b)
  unfolding raised
  both_raised e t a b x y h =
      omega (arith, raise_mono s.energy_step b.energy a.energy ok.energy_step.low (omega arith), raise_mono s.temperature_step b.temperature a.temperature ok.temperature_step.low (omega arith))

  -- What a rounded run meets, one from nowhere above meets too.
  pub lower_meets : (k : Limits) (js : List ℕ) (a b : State) → Near 0 0 a b → Meets s (raised s) k a js → Meets s (raised s) k b js
  lower_meets k js a b h w =
      near_meets k k 0 0 (tighter_same k) (raised s) (raised s) 0 0 both_raised js 0 0 a b (omega arith) (omega arith) h w

  module _ (r : State → State) (f : (a b : State) → Near 0 0 a b → Near 0 0 (r a) b) where
    -- An exact run from nowhere above stays nowhere above.
    pub lower_run : (js : List ℕ) (a b : State) → Near 0 0 a b → Near 0 0 (run s r a js) (exact_run s b js)
    lower_run [] a b h = h
    lower_run (j ∷ js) a b h = lower_run js _ _ (near_step 0 0 (r a) b j (f a b h))

  pub rounded_above : (js : List ℕ) (a : State) → Near 0 0 (rounded_run s a js) (exact_run s a js)
  rounded_above js a = lower_run (raised s) (λ x y h. below_raised 0 0 x y (omega arith) (omega arith) h) js a a (near_self a)
