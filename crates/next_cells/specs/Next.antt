-- The temperature cell after a job (document 01, 'The rounded run and the table'). From a cell, a job at level j moves the temperature
-- cell to one that is the same for all levels left and all energy cells.
-- Assumes nothing.
use Rattle.std.specs.Prelude.{cond, ℕ, ◌+◌, ◌*◌, ◌/◌, leb}
use Rattle.thermal.specs.Rounding.{ceil_div}
use Rattle.frame.specs.Sheet.{Sheet}
use Rattle.frame.specs.Run.{fresh, step}
use Rattle.frame.specs.Table.{temperature_cells}

-- 2 ^ 32, the scale of a multiplier that stands for a division.
abbrev pub scale : ℕ
scale = 4294967296

-- The multiplier that stands for a division by h: 2 ^ 32 / h, rounded up.
abbrev pub multiplier_of : ℕ → ℕ
multiplier_of h = 4294967295 / h + 1

-- The temperature after job i at level j, from temperature t.
abbrev pub warmed : Sheet → ℕ → ℕ → ℕ → ℕ
warmed s i j t = (step s (fresh i j 0 t) j).temperature

-- The temperature cell after job i at level j, from temperature cell b; B, which is none, where it ends above C.
unfoldable pub next_cell : Sheet → ℕ → ℕ → ℕ → ℕ
next_cell s i j b =
    let t : ℕ = warmed s i j (b * s.temperature_step) in
    cond (leb t s.temperature_limit) (ceil_div t s.temperature_step) (temperature_cells s)
