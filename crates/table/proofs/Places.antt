-- Where the words of a job and of a level stand: one after the other, by the laws of products alone; and the places that the code works
-- out, by the axes that it has.
-- Assumes nothing.
use mathlib.Core.Path.{◌≡◌, refl, sym, ap, ap₂, ◌∙◌}
use Prim.Native.Nat.{ℕ, suc, ◌+◌, ◌*◌, ◌-◌, ◌/◌, ◌%◌, ◌≤◌, ◌<◌}
use native.Mathlib.Nat.{add-mul, add-zero, zero-mul, mul_assoc, mul-le-mul_right, le-mul_of_pos_right, div-add-mod', div-lt_iff_lt-mul, mod-lt}
use native.Mathlib.Omega.{arith}
use Rattle.frame.specs.Sheet.{Sheet}
use Rattle.frame.specs.Table.{energy_cells, temperature_cells, need, place, words_max}
use Rattle.table.specs.declared.axes.Frame.{Frame}
use Rattle.table.specs.Table.{Axes, cells, base}
use Rattle.table.proofs.Frames.{rows_some, columns_some, energy_count, temperature_count}

module _ (s : Sheet) where
  pub width_some : 0 < temperature_cells s
  unfolding temperature_cells
  width_some = omega arith

  pub energy_of : (y : ℕ) → y < cells s → y / temperature_cells s < energy_cells s
  unfolding cells
  energy_of y h = (div-lt_iff_lt-mul width_some).1 h

  pub temperature_of : (y : ℕ) → y % temperature_cells s < temperature_cells s
  temperature_of y = mod-lt y width_some

  -- The levels of a job stand one after the other.
  pub base_level : (i j : ℕ) → base s i j ≡ base s i 0 + j * cells s
  unfolding base place cells
  base_level i j =
      omega (
        arith,
        add-mul (i * s.levels) j (energy_cells s),
        add-mul (i * s.levels * energy_cells s) (j * energy_cells s) (temperature_cells s),
        mul_assoc j (energy_cells s) (temperature_cells s),
      )

  -- So do the jobs.
  pub base_next : (i j : ℕ) → base s (suc i) j ≡ base s i j + s.levels * cells s
  unfolding base place cells
  base_next i j =
      let z : suc i * s.levels ≡ i * s.levels + s.levels = omega (arith, add-mul i 1 s.levels) in
      omega (
        arith,
        z,
        add-mul (i * s.levels + j) s.levels (energy_cells s),
        ap (λ (x : ℕ). (x + j) * energy_cells s) z,
        add-mul ((i * s.levels + j) * energy_cells s) (s.levels * energy_cells s) (temperature_cells s),
        mul_assoc s.levels (energy_cells s) (temperature_cells s),
      )

  -- Word y of a level.
  pub base_word : (i j y : ℕ) → base s i j + y ≡ place s i j (y / temperature_cells s) (y % temperature_cells s)
  unfolding base place
  base_word i j y =
      omega (
        arith,
        div-add-mod' y (temperature_cells s),
        add-mul ((i * s.levels + j) * energy_cells s) (y / temperature_cells s) (temperature_cells s),
      )

  pub base_start : (i : ℕ) → base s i 0 ≡ i * s.levels * energy_cells s * temperature_cells s
  unfolding base place
  base_start i = let z : i * s.levels + 0 ≡ i * s.levels = omega arith in rw (z, add-zero (i * s.levels * energy_cells s)) (omega arith)

  pub base_zero : base s 0 0 ≡ 0
  base_zero = rw (base_start 0, zero-mul s.levels, zero-mul (energy_cells s), zero-mul (temperature_cells s)) refl

  pub base_need : base s s.jobs 0 ≡ need s
  unfolding need
  base_need = base_start s.jobs

  pub base_mono : (i k : ℕ) → i ≤ k → base s i 0 ≤ base s k 0
  base_mono i k h =
      let a = mul-le-mul_right s.levels h in
      let b = mul-le-mul_right (energy_cells s) a in
      omega (arith, base_start i, base_start k, mul-le-mul_right (temperature_cells s) b)

  -- A level's words end before the next job's.
  pub base_within : (i j : ℕ) → j < s.levels → base s i j + cells s ≤ base s (suc i) 0
  base_within i j h =
      let l : j + 1 ≤ s.levels = omega arith in
      omega (arith, base_level i j, base_next i 0, mul-le-mul_right (cells s) l, add-mul j 1 (cells s))

  -- A level's words end before the next level's.
  pub base_before : (i k j : ℕ) → k < j → base s i k + cells s ≤ base s i j
  base_before i k j h =
      let l : k + 1 ≤ j = omega arith in
      omega (arith, base_level i k, base_level i j, mul-le-mul_right (cells s) l, add-mul k 1 (cells s))

-- ---- by the axes that the code has

-- Where the words of job i at level j begin.
abbrev pub at_by : Frame → ℕ → ℕ → ℕ
at_by f i j = (i * f.head.levels + j) * f.energy_cells * f.temperature_cells

module _ {s : Sheet} {f : Frame} (g : Axes s f) where
  pub cells_by : f.energy_cells * f.temperature_cells ≡ cells s
  unfolding cells
  cells_by = ap₂ ◌*◌ (energy_count g) (temperature_count g)

  pub job_by : f.head.levels * f.energy_cells * f.temperature_cells ≡ s.levels * cells s
  job_by = mul_assoc f.head.levels f.energy_cells f.temperature_cells ∙ ap₂ ◌*◌ g.levels cells_by

  -- A job has at least the words of one level.
  pub one_level : cells s ≤ s.levels * cells s
  one_level = omega (arith, mul-le-mul_right (cells s) g.ranges.levels.low)

  -- The last row ends with the level.
  pub last_row : (f.energy_cells - 1) * f.temperature_cells + f.temperature_cells ≡ cells s
  last_row =
      let z : f.energy_cells ≡ f.energy_cells - 1 + 1 = omega (arith, rows_some f) in
      omega (arith, cells_by, ap (λ (x : ℕ). x * f.temperature_cells) z, add-mul (f.energy_cells - 1) 1 f.temperature_cells)

  -- Where the words of a job begin.
  pub start_is : (i : ℕ) → i * f.head.levels * (f.energy_cells * f.temperature_cells) ≡ base s i 0
  start_is i =
      sym (mul_assoc (i * f.head.levels) f.energy_cells f.temperature_cells)
      ∙ rw (g.levels, energy_count g, temperature_count g) (sym (base_start s i))

  module _ (i j : ℕ) (hi : i < s.jobs) (hj : j < s.levels) where
    pub at_is : at_by f i j ≡ base s i j
    unfolding base place
    at_is = rw (g.levels, energy_count g, temperature_count g) (omega (arith, add-zero ((i * s.levels + j) * energy_cells s)))

    pub at_need : base s i j + cells s ≤ need s
    at_need = omega (arith, base_within s i j hj, base_mono s (suc i) s.jobs (omega arith), base_need s)

    pub at_small : at_by f i j + cells s ≤ words_max
    at_small = omega (arith, at_is, at_need, g.allowed)

    pub row_small : (i * f.head.levels + j ≤ words_max) × ((i * f.head.levels + j) * f.energy_cells ≤ words_max)
    row_small =
        let r : (i * f.head.levels + j) * f.energy_cells ≤ words_max = omega (arith, at_small, le-mul_of_pos_right ((i * f.head.levels + j) * f.energy_cells) (columns_some f)) in
        (omega (arith, r, le-mul_of_pos_right (i * f.head.levels + j) (rows_some f)), r)

    pub next_is : at_by f i j + f.head.levels * f.energy_cells * f.temperature_cells ≡ base s (suc i) j
    next_is = omega (arith, at_is, job_by, base_next s i j)

    pub job_small : f.head.levels * f.energy_cells ≤ words_max
    job_small =
        let n : s.levels * cells s ≤ words_max = omega (arith, base_next s i 0, base_mono s (suc i) s.jobs (omega arith), base_need s, g.allowed) in
        omega (arith, n, job_by, le-mul_of_pos_right (f.head.levels * f.energy_cells) (columns_some f))

    pub next_need : suc i < s.jobs → base s (suc i) j + cells s ≤ need s
    next_need h = omega (arith, base_within s (suc i) j hj, base_mono s (suc (suc i)) s.jobs (omega arith), base_need s)
