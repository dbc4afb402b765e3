-- A job from a cell: its move is the same from every cell in energy, and what follows the same for every level left, so that the least
-- time of a cell by one level more is the lesser of the least so far and the move's time with what follows.
-- Assumes nothing.
use mathlib.Core.Path.{◌≡◌, refl, sym, ap, ap₂, ◌∙◌}
use Prim.Native.Nat.{ℕ, suc, ◌+◌, ◌*◌, ◌-◌, ◌≤◌, ◌<◌, min}
use native.Mathlib.Decide.{dec_lt, dec_le}
use native.Mathlib.Omega.{arith}
use borrow.Author.Tests.{le-leb, lt-leb, lt-ltb, le-ltb}
use Rattle.thermal.specs.Rounding.{ceil_div}
use Rattle.frame.specs.Sheet.{Sheet, Ranges, job_most}
use Rattle.frame.specs.Run.{State, fresh, change, job, step}
use Rattle.frame.specs.Demands.{infeasible}
use Rattle.frame.specs.Plan.{least_of, next, via, least}
use Rattle.frame.specs.Table.{energy_cells, temperature_cells, cell, word}
use Rattle.frame.proofs.Table.{temperature_cell, least_word}
use Rattle.frame.proofs.Words.{least_bounded, least_small}
use Rattle.store.specs.Store.{jobs_max}
use Rattle.table.proofs.Ways.{least_more, least_none, next_at_cell, cost_energy, cost_temperature, cost_within}
use Rattle.table.proofs.Cells.{at_cell}
use Rattle.word.specs.Word.{far, near, settled}
use Rattle.moves.specs.Moves.{moved}
use Rattle.moves.proofs.Reach.{ceil_add}
use Rattle.next_cells.specs.Next.{warmed, next_cell}
use Rattle.follow.specs.Follow.{follows}
use Rattle.fill.specs.Layer.{up_to}

-- ---- the move from any cell

module _ (s : Sheet) (i p j e t : ℕ) where
  pub step_energy : (step s (fresh i p e t) j).energy ≡ e + (moved s i p j).energy
  unfolding step change job
  step_energy = omega arith

  pub step_time : (step s (fresh i p e t) j).time ≡ (moved s i p j).time
  unfolding step change job
  step_time = refl

  pub step_warm : (step s (fresh i p e t) j).temperature ≡ warmed s i j t
  unfolding step change job
  step_warm = refl

  pub step_peak : (step s (fresh i p e t) j).peak ≡ warmed s i j t
  unfolding step change job
  step_peak = omega arith

-- ---- words

-- What is cut to a word may be cut before.
least_near : (c r : ℕ) → near (min infeasible (c + r)) ≡ near (c + near r)
least_near c r = omega arith

near_min : (x y z : ℕ) → near y ≡ near z → near (min x y) ≡ min (near x) z
near_min x y z e = omega arith

-- ---- what follows

module _ (s : Sheet) (ok : Ranges s) (i p j a b : ℕ) (hi : i < s.jobs) (hp : p < s.levels) (hj : j < s.levels) (ha : a < energy_cells s)
    (hb : b < temperature_cells s) where
  abbrev here : State
  here = cell s i p a b

  abbrev after : State
  after = step s here j

  abbrev energy : ℕ
  energy = (moved s i p j).energy

  abbrev warm : ℕ
  warm = warmed s i j (b * s.temperature_step)

  next_after : next s here j ≡ after
  next_after = next_at_cell s j (at_cell s ok i p a b hi hp ha hb)

  -- The least time after the job is that of the cell to which it leads.
  rest_cell : least s (s.jobs - suc i) after ≡ least s (s.jobs - suc i) (cell s (suc i) j (a + ceil_div energy s.energy_step) (ceil_div warm s.temperature_step))
  unfolding step change job word least
  rest_cell =
      elim (dec_lt (suc i) s.jobs) [
        | yes h ↦
            let q : ceil_div after.energy s.energy_step ≡ a + ceil_div energy s.energy_step =
            ap (λ (x : ℕ). ceil_div x s.energy_step) (step_energy s i p j (a * s.energy_step) (b * s.temperature_step)) ∙ ceil_add a energy s.energy_step ok.energy_step.low in
            let t : ceil_div after.temperature s.temperature_step ≡ ceil_div warm s.temperature_step =
            ap (λ (x : ℕ). ceil_div x s.temperature_step) (step_warm s i p j (a * s.energy_step) (b * s.temperature_step)) in
            least_word s ok after h ∙ ap₂ (word s (suc i) j) q t
        | no h ↦ let z : s.jobs - suc i ≡ 0 = omega arith in rw z refl
      ]

  -- Where the job ends within C.
  cell_within : warm ≤ s.temperature_limit → next_cell s i j b ≡ ceil_div warm s.temperature_step
  unfolding next_cell
  cell_within h = rw (le-leb warm s.temperature_limit h) refl

  follows_within : warm ≤ s.temperature_limit → (x : ℕ) →
      follows s i j x b ≡ near (least s (s.jobs - suc i) (cell s (suc i) j x (ceil_div warm s.temperature_step)))
  unfolding follows
  follows_within h x = rw (cell_within h, lt-ltb _ _ (temperature_cell s ok warm h)) refl

  -- Where it ends above C.
  follows_above : s.temperature_limit < warm → (x : ℕ) → follows s i j x b ≡ far
  unfolding follows next_cell
  follows_above h x = rw (lt-leb warm s.temperature_limit h, le-ltb (temperature_cells s) (temperature_cells s) (omega arith)) refl

  abbrev way : ℕ
  way = via s (least s (s.jobs - suc i)) here j

  -- The way by level j, where the cell has the energy for it.
  way_lawful : a * s.energy_step + energy ≤ s.energy_budget → near way ≡ near ((moved s i p j).time + follows s i j (a + ceil_div energy s.energy_step) b)
  unfolding via
  way_lawful l =
      let u : after.energy ≤ s.energy_budget = omega (arith, step_energy s i p j (a * s.energy_step) (b * s.temperature_step)) in
      elim (dec_le warm s.temperature_limit) [
        | yes v ↦
            let k = cost_within s after (least s (s.jobs - suc i) after) u (omega (arith, step_peak s i p j (a * s.energy_step) (b * s.temperature_step))) in
            let f = follows_within v (a + ceil_div energy s.energy_step) in
            rw (next_after, k, rest_cell, step_time s i p j (a * s.energy_step) (b * s.temperature_step), f) (least_near _ _)
        | no v ↦
            let k = cost_temperature s after (least s (s.jobs - suc i) after) u (omega (arith, step_peak s i p j (a * s.energy_step) (b * s.temperature_step))) in
            rw (next_after, k, follows_above (omega arith) (a + ceil_div energy s.energy_step)) (omega arith)
      ]

  -- Where it has not.
  way_unlawful : s.energy_budget < a * s.energy_step + energy → way ≡ infeasible
  unfolding via
  way_unlawful l = rw next_after (cost_energy s after _ (omega (arith, step_energy s i p j (a * s.energy_step) (b * s.temperature_step))))

  -- One level more.
  pub up_lawful : a * s.energy_step + energy ≤ s.energy_budget →
      up_to s i p (j + 1) a b ≡ min (up_to s i p j a b) ((moved s i p j).time + follows s i j (a + ceil_div energy s.energy_step) b)
  unfolding up_to
  up_lawful l = rw least_more (near_min _ _ _ (way_lawful l))

  pub up_unlawful : s.energy_budget < a * s.energy_step + energy → up_to s i p (j + 1) a b ≡ up_to s i p j a b
  unfolding up_to
  up_unlawful l = rw (least_more, way_unlawful l) (omega arith)

-- ---- no level, and all levels

pub up_none : (s : Sheet) (i p a b : ℕ) → up_to s i p 0 a b ≡ far
unfolding up_to
up_none s i p a b = rw least_none (omega arith)

pub up_most : (s : Sheet) (i p k a b : ℕ) → up_to s i p k a b ≤ far
unfolding up_to
up_most s i p k a b = omega arith

pub follows_most : (s : Sheet) (i j a b : ℕ) → follows s i j a b ≤ far
unfolding follows
follows_most s i j a b =
    elim (dec_lt (next_cell s i j b) (temperature_cells s)) [
      | yes l ↦ rw (lt-ltb (next_cell s i j b) (temperature_cells s) l) (omega arith)
      | no l ↦ rw (le-ltb (next_cell s i j b) (temperature_cells s) (omega arith)) (omega arith)
    ]

-- A time below `far` is a word, and `far` stands for 4,294,967,295.
settled_near : (w n : ℕ) → w ≤ infeasible → (w < infeasible → w ≤ n * job_most) → n ≤ jobs_max → settled (near w) ≡ w
settled_near w n h f m =
    elim (dec_lt w infeasible) [
      | yes l ↦ let z : near w ≡ w = omega (arith, f l) in rw (z, lt-ltb w far (omega (arith, f l))) refl
      | no l ↦ let z : near w ≡ far = omega arith in let y : w ≡ infeasible = omega arith in rw (z, y) refl
    ]

least_next : (s : Sheet) (n k : ℕ) (a : State) → n ≡ suc k → least s n a ≡ least_of s.levels (via s (least s k) a)
unfolding least
least_next s n k a e = rw e refl

pub up_word : (s : Sheet) → Ranges s → (i p a b : ℕ) → i < s.jobs → settled (up_to s i p s.levels a b) ≡ word s i p a b
unfolding up_to word
up_word s ok i p a b h =
    let n : s.jobs - i ≡ suc (s.jobs - suc i) = omega arith in
    let w = settled_near (least s (s.jobs - i) (cell s i p a b)) (s.jobs - i) (least_bounded s ok (s.jobs - i) _) (least_small s ok (s.jobs - i) _) (omega (arith, ok.jobs.high)) in
    ap (λ (x : ℕ). settled (near x)) (sym (least_next s (s.jobs - i) (s.jobs - suc i) _ n)) ∙ w
