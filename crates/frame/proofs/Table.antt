-- Places of the table, and words from later words.
-- Assumes nothing.
use mathlib.Core.Path.{◌≡◌, refl, sym, ap, fun_ext, ◌∙◌}
use Prim.Native.Nat.{ℕ, suc, ◌+◌, ◌*◌, ◌-◌, ◌/◌, ◌%◌, ◌≤◌, ◌<◌}
use native.Mathlib.Nat.{mul-le-mul_right, div-eq_of_lt-le, mul-add-mod_self_right, mod-eq_of_lt, mod-lt, div-lt_iff_lt-mul, div-add-mod'}
use native.Mathlib.Omega.{arith}
use Rattle.thermal.specs.Rounding.{ceil_div, raise}
use Rattle.thermal.proofs.Rounding.{ceil_least, ceil_mono, raise_twice}
use Rattle.frame.specs.Sheet.{Sheet, Ranges}
use Rattle.frame.specs.Run.{State, start, raised}
use Rattle.frame.specs.Plan.{least_of, next, cost, via, least}
use Rattle.frame.specs.Table.{energy_cells, temperature_cells, need, place, word, done_at, level_at, energy_cell_at, temperature_cell_at, word_at}
use Rattle.frame.proofs.Plan.{least_from}

-- ---- places

pub digit_lt : (x y m n : ℕ) → x < m → y < n → x * n + y < m * n
digit_lt x y m n h k = omega (arith, mul-le-mul_right n h)

pub digit_div : (x y n : ℕ) → y < n → (x * n + y) / n ≡ x
digit_div x y n h = div-eq_of_lt-le n (omega arith) (omega arith)

pub digit_mod : (x y n : ℕ) → y < n → (x * n + y) % n ≡ y
digit_mod x y n h = mul-add-mod_self_right x n y ∙ mod-eq_of_lt h

module _ (s : Sheet) (i p a b : ℕ) (hp : p < s.levels) (ha : a < energy_cells s) (hb : b < temperature_cells s) where
  -- The places of the first m jobs are the first m × l × A × B.
  pub place_lt : (m : ℕ) → i < m → place s i p a b < m * s.levels * energy_cells s * temperature_cells s
  unfolding place
  place_lt m h = digit_lt _ b _ _ (digit_lt _ a _ _ (digit_lt i p m _ h hp) ha) hb

  -- Every cell has a place of its own: what was put in is read back.
  pub done_at_place : done_at s (place s i p a b) ≡ i
  unfolding done_at place
  done_at_place = rw (digit_div _ b (temperature_cells s) hb, digit_div _ a (energy_cells s) ha) (digit_div i p s.levels hp)

  pub level_at_place : level_at s (place s i p a b) ≡ p
  unfolding level_at place
  level_at_place = rw (digit_div _ b (temperature_cells s) hb, digit_div _ a (energy_cells s) ha) (digit_mod i p s.levels hp)

  pub energy_cell_at_place : energy_cell_at s (place s i p a b) ≡ a
  unfolding energy_cell_at place
  energy_cell_at_place = rw (digit_div _ b (temperature_cells s) hb) (digit_mod _ a (energy_cells s) ha)

  pub temperature_cell_at_place : temperature_cell_at s (place s i p a b) ≡ b
  unfolding temperature_cell_at place
  temperature_cell_at_place = digit_mod _ b (temperature_cells s) hb

  -- So the word at a cell's place is the cell's.
  pub word_at_place : word_at s (place s i p a b) ≡ word s i p a b
  unfolding word_at
  word_at_place = rw (done_at_place, level_at_place, energy_cell_at_place, temperature_cell_at_place) refl

-- Every place is some cell's.
pub place_at : (s : Sheet) (k : ℕ) → place s (done_at s k) (level_at s k) (energy_cell_at s k) (temperature_cell_at s k) ≡ k
unfolding place done_at level_at energy_cell_at temperature_cell_at
place_at s k = simp div-add-mod'

-- A place of the need is that of a cell of the table.
module _ (s : Sheet) (ok : Ranges s) (k : ℕ) where
  energy_cells_some : 0 < energy_cells s
  unfolding energy_cells
  energy_cells_some = omega arith

  temperature_cells_some : 0 < temperature_cells s
  unfolding temperature_cells
  temperature_cells_some = omega arith

  pub done_at_lt : k < need s → done_at s k < s.jobs
  unfolding need done_at
  done_at_lt h =
      (div-lt_iff_lt-mul ok.levels.low).1 ((div-lt_iff_lt-mul energy_cells_some).1 ((div-lt_iff_lt-mul temperature_cells_some).1 h))

  pub level_at_lt : level_at s k < s.levels
  unfolding level_at
  level_at_lt = mod-lt _ ok.levels.low

  pub energy_cell_at_lt : energy_cell_at s k < energy_cells s
  unfolding energy_cell_at
  energy_cell_at_lt = mod-lt _ energy_cells_some

  pub temperature_cell_at_lt : temperature_cell_at s k < temperature_cells s
  unfolding temperature_cell_at
  temperature_cell_at_lt = mod-lt _ temperature_cells_some

-- ---- words

module _ (s : Sheet) (ok : Ranges s) where
  -- Energy within W and temperature within C are raised to cells of the table.
  pub energy_cell : (e : ℕ) → e ≤ s.energy_budget → ceil_div e s.energy_step < energy_cells s
  unfolding energy_cells
  energy_cell e h = omega (arith, ceil_mono e s.energy_budget s.energy_step ok.energy_step.low h)

  pub temperature_cell : (t : ℕ) → t ≤ s.temperature_limit → ceil_div t s.temperature_step < temperature_cells s
  unfolding temperature_cells
  temperature_cell t h = omega (arith, ceil_mono t s.temperature_limit s.temperature_step ok.temperature_step.low h)

  -- Raising twice is raising once, so where a job is still to be done a raised state has the same least time.
  next_raised : (a : State) (j : ℕ) → next s (raised s a) j ≡ next s a j
  unfolding next raised
  next_raised a j =
      rw (raise_twice s.energy_step a.energy ok.energy_step.low, raise_twice s.temperature_step a.temperature ok.temperature_step.low) refl

  pub least_raised : (n : ℕ) (a : State) → least s (suc n) (raised s a) ≡ least s (suc n) a
  unfolding least via
  least_raised n a = ap (least_of s.levels) (fun_ext (λ j. ap (λ (b : State). cost s b (least s n b)) (next_raised a j)))

  -- The least time of the remaining jobs is a word of the table: that of the cell to which the state is raised. So the start
  -- state has a word, and a word is made of the words of one more job done.
  pub least_word : (a : State) → a.done < s.jobs →
      least s (s.jobs - a.done) a ≡ word s a.done a.level (ceil_div a.energy s.energy_step) (ceil_div a.temperature s.temperature_step)
  unfolding word raised raise
  least_word a h =
      let n : s.jobs - a.done ≡ suc (s.jobs - suc a.done) = omega arith in
      rw n (sym (least_raised (s.jobs - suc a.done) a) ∙ least_from s (suc (s.jobs - suc a.done)) (raised s a) _ refl refl refl refl)

  -- The start state's word, with which the deadline is compared: energy 0 is cell 0.
  pub start_word : least s s.jobs (start s) ≡ word s 0 s.start_level 0 (ceil_div s.start_temperature s.temperature_step)
  start_word =
      let z : ceil_div 0 s.energy_step ≡ 0 = omega (arith, (ceil_least 0 s.energy_step 0 ok.energy_step.low).1 (omega arith)) in
      let m : s.jobs - 0 ≡ s.jobs = omega arith in
      rw (z, m) at (least_word (start s) ok.jobs.low)
