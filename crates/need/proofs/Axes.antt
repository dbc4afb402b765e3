-- The axes that the planner works out are the sheet's, and the need stays in 64 bits.
-- Assumes nothing.
use mathlib.Core.Path.{◌≡◌, refl, ap, ap₂, ◌∙◌}
use Prim.Native.Nat.{ℕ, ◌+◌, ◌*◌, ◌≤◌, ◌<◌, ◌^◌}
use native.Mathlib.Nat.{mul-le-mul}
use native.Mathlib.Omega.{arith}
use Rattle.frame.specs.Sheet.{Ranges, limit_max, temperature_max}
use Rattle.frame.specs.Table.{energy_cells, temperature_cells, need, words_max}
use Rattle.store.specs.declared.Store.{Store}
use Rattle.store.specs.declared.Head.{Head}
use Rattle.store.specs.Store.{jobs_max, levels_max}
use Rattle.store.specs.Figures.{sheet_of}
use Rattle.table.specs.declared.axes.Frame.{Frame}
use Rattle.table.specs.declared.axes.HeadAxes.{HeadAxes}
use Rattle.table.specs.Bounds.{Bounded}
use Rattle.table.specs.Table.{Axes, head_axes}
use Rattle.table.proofs.Frames.{rows_most, columns_most}
use Rattle.need.specs.Axes.{Lawful, bare, axes_of}

-- A lawful head has the ranges that a frame asks for.
pub bounded : (h : Head) → Lawful h → Bounded h
unfolding sheet_of
bounded h l =
    let ok = l.ranges in
    record {
      jobs = ok.jobs.high;
      levels = ok.levels.high;
      energy_budget = ok.energy_budget;
      temperature_limit = ok.temperature_limit;
      energy_step = ok.energy_step;
      temperature_step = ok.temperature_step;
    }

-- The need is the same with any store.
pub need_any : (h : Head) (store : Store) → need (bare h) ≡ need (sheet_of h store)
unfolding sheet_of need energy_cells temperature_cells
need_any h store = refl

-- A frame that was worked out of a head has that head.
pub head_is : {h : Head} (f : Frame) → head_axes f ≡ axes_of h → f.head ≡ h
head_is f e = ap (λ (x : HeadAxes). x.head) e

-- Its sheet is that of the head, with the same figures.
pub sheet_is : {h : Head} (f : Frame) {store st : Store} → head_axes f ≡ axes_of h → st ≡ store → sheet_of f.head st ≡ sheet_of h store
sheet_is f e d = ap₂ sheet_of (head_is f e) d

-- Its need is that of a sheet of the head.
pub need_sheet : {h : Head} (f : Frame) (store : Store) {n : ℕ} → head_axes f ≡ axes_of h → n ≡ need (bare f.head) → n ≡ need (sheet_of h store)
need_sheet {h} f store e k = k ∙ ap (λ (x : Head). need (bare x)) (head_is f e) ∙ need_any h store

module _ (f : Frame) where
  -- The need, by the axes.
  pub need_is : f.head.jobs * f.head.levels * f.energy_cells * f.temperature_cells ≡ need (bare f.head)
  unfolding sheet_of need energy_cells temperature_cells
  need_is = rw (f.rows, f.columns) refl

  -- It stays below 2 ^ 63.
  pub need_small :
      (f.head.jobs * f.head.levels ≤ jobs_max * levels_max) × (f.head.jobs * f.head.levels * f.energy_cells ≤ jobs_max * levels_max * (limit_max + 1)) ×
      (f.head.jobs * f.head.levels * f.energy_cells * f.temperature_cells < 2 ^ 63)
  need_small =
      let j : f.head.jobs * f.head.levels ≤ jobs_max * levels_max = mul-le-mul f.bounded.jobs f.bounded.levels in
      let k : f.head.jobs * f.head.levels * f.energy_cells ≤ jobs_max * levels_max * (limit_max + 1) = mul-le-mul j (rows_most f) in
      let l : f.head.jobs * f.head.levels * f.energy_cells * f.temperature_cells ≤ jobs_max * levels_max * (limit_max + 1) * (temperature_max + 1) =
      mul-le-mul k (columns_most f) in
      (j, k, omega (arith, l))

  -- A need fits a signed 64-bit number.
  pub need_below : need (bare f.head) < 2 ^ 63
  need_below = omega (arith, need_small.2, need_is)

-- The axes that were worked out of a head are those of its sheet.
pub axes : {h : Head} (f : Frame) (store : Store) → head_axes f ≡ axes_of h → Ranges (sheet_of h store) → need (sheet_of h store) ≤ words_max → Axes (sheet_of h store) f
unfolding sheet_of
axes f store e ok n =
    record {
      ranges = ok;
      jobs = ap (λ (x : HeadAxes). x.head.jobs) e;
      levels = ap (λ (x : HeadAxes). x.head.levels) e;
      energy_budget = ap (λ (x : HeadAxes). x.head.energy_budget) e;
      temperature_limit = ap (λ (x : HeadAxes). x.head.temperature_limit) e;
      energy_step = ap (λ (x : HeadAxes). x.head.energy_step) e;
      temperature_step = ap (λ (x : HeadAxes). x.head.temperature_step) e;
      allowed = n;
    }
