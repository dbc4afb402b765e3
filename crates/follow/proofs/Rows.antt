-- What the row loops leave is what follows, by the map of temperature cells and, where there is a next job, by its words.
-- Assumes nothing.
use mathlib.Core.Path.{◌≡◌, refl, ap₂, ◌∙◌}
use mathlib.Core.List.{List}
use Prim.Native.Nat.{ℕ, suc, ◌+◌, ◌*◌, ◌-◌, ◌/◌, ◌%◌, ◌≤◌, ◌<◌}
use native.Mathlib.Decide.{dec_lt}
use native.Mathlib.Omega.{arith}
use lib.ListN.{get_or}
use borrow.Author.Tests.{lt-ltb, le-ltb}
use Rattle.frame.specs.Sheet.{Sheet}
use Rattle.frame.specs.Plan.{least}
use Rattle.frame.specs.Table.{temperature_cells, place, word}
use Rattle.frame.proofs.Table.{digit_div, digit_mod}
use Rattle.table.specs.Table.{cells, base, Holds}
use Rattle.cell_map.specs.Rows.{gathered, finished}
use Rattle.next_cells.specs.Next.{next_cell}
use Rattle.follow.specs.Follow.{follows, follows_at}
use Rattle.table.proofs.Places.{energy_of, temperature_of, base_word}

module _ (s : Sheet) (i j : ℕ) (t : List ℕ) (map : ℕ) (m : (b : ℕ) → b < temperature_cells s → get_or t (map + b) 0 ≡ next_cell s i j b) where
  -- Where there is a next job.
  pub gathered_follows : suc i < s.jobs → j < s.levels → Holds s t (suc i) → (y : ℕ) → y < cells s →
      gathered t map (base s (suc i) j) (temperature_cells s) y ≡ follows_at s i j y
  unfolding gathered follows word
  gathered_follows hi hj held y hy =
      let b = y % temperature_cells s in
      let q = next_cell s i j b in
      let z : get_or t (map + b) 0 ≡ q = m b (temperature_of s y) in
      rw z
      (elim (dec_lt q (temperature_cells s)) [
        | yes l ↦
            let a = y / temperature_cells s in
            let e : base s (suc i) j + (a * temperature_cells s + q) ≡ place s (suc i) j a q =
            base_word s (suc i) j _ ∙ ap₂ (place s (suc i) j) (digit_div a q (temperature_cells s) l) (digit_mod a q (temperature_cells s) l) in
            rw (lt-ltb q (temperature_cells s) l, e, held.words hi j a q hj (energy_of s y hy) l) refl
        | no l ↦ rw (le-ltb q (temperature_cells s) (omega arith)) refl
      ])

  -- After the last job.
  pub finished_follows : s.jobs ≤ suc i → (y : ℕ) → finished t map (temperature_cells s) y ≡ follows_at s i j y
  unfolding finished follows least
  finished_follows h y =
      let b = y % temperature_cells s in
      let z : get_or t (map + b) 0 ≡ next_cell s i j b = m b (temperature_of s y) in
      let n : s.jobs - suc i ≡ 0 = omega arith in
      rw (z, n) refl
