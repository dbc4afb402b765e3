-- The temperature cells after a job: the code's are the definition's, and as a warmer start ends no cooler, a cell from which the job ends
-- above C is followed by such cells alone.
-- Assumes nothing.
use mathlib.Core.Path.{◌≡◌}
use mathlib.Core.Bool.{cond}
use Prim.Native.Nat.{ℕ, ◌*◌, ◌≤◌, ◌<◌}
use native.Mathlib.Nat.{mul-le-mul_right}
use native.Mathlib.Decide.{dec_le}
use native.Mathlib.Omega.{arith}
use lib.Dec.{leb}
use borrow.Author.Tests.{le-leb, lt-leb}
use Rattle.thermal.specs.Rounding.{ceil_div}
use Rattle.frame.specs.Sheet.{Sheet, Ranges}
use Rattle.frame.specs.Run.{fresh}
use Rattle.frame.specs.Table.{temperature_cells}
use Rattle.frame.proofs.Slack.{near_step}
use Rattle.frame.proofs.Table.{temperature_cell}
use Rattle.table.specs.declared.axes.Frame.{Frame}
use Rattle.table.specs.Table.{Axes}
use Rattle.table.proofs.Frames.{temperature_count}
use Rattle.next_cells.specs.Next.{warmed, next_cell}

module _ (s : Sheet) (ok : Ranges s) (i j : ℕ) where
  -- A warmer start ends no cooler.
  warmed_mono : (t u : ℕ) → t ≤ u → warmed s i j t ≤ warmed s i j u
  warmed_mono t u h = omega (arith, (near_step s ok 0 0 (fresh i j 0 u) (fresh i j 0 t) j (omega arith)).temperature)

  -- So a cell from which the job ends above C is followed by such cells alone.
  pub cell_stays : (b c : ℕ) → b ≤ c → temperature_cells s ≤ next_cell s i j b → temperature_cells s ≤ next_cell s i j c
  unfolding next_cell
  cell_stays b c h l =
      let t = warmed s i j (b * s.temperature_step) in
      let u = warmed s i j (c * s.temperature_step) in
      elim (dec_le t s.temperature_limit) [
        | yes g ↦ absurd (omega (arith, temperature_cell s ok t g, rw (le-leb t s.temperature_limit g) at l))
        | no g ↦
            let m : s.temperature_limit < u = omega (arith, warmed_mono _ _ (mul-le-mul_right s.temperature_step h)) in
            rw (lt-leb u s.temperature_limit m) (omega arith)
      ]

module _ {s : Sheet} {f : Frame} (g : Axes s f) (i j b : ℕ) where
  -- The code's cell is the definition's.
  pub cell_is : (t v : ℕ) → t ≡ warmed s i j (b * s.temperature_step) →
      v ≡ cond (leb t f.head.temperature_limit) (ceil_div t f.head.temperature_step) f.temperature_cells → v ≡ next_cell s i j b
  unfolding next_cell
  cell_is t v e z = rw (g.temperature_limit, g.temperature_step, temperature_count g, e) at z
