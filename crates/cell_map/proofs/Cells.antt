-- The words of a row by the cells that the map names, and where the rows stand.
-- Assumes nothing.
use mathlib.Core.Path.{◌≡◌, refl, ap, ◌∙◌}
use mathlib.Core.Bool.{cond}
use mathlib.Core.List.{List}
use Prim.Native.Nat.{ℕ, ◌+◌, ◌*◌, ◌-◌, ◌/◌, ◌%◌, ◌≤◌, ◌<◌}
use native.Mathlib.Nat.{div-eq_of_lt-le, mul-add-mod_self_right, mod-eq_of_lt, mul-le-mul_right}
use native.Mathlib.Omega.{arith}
use lib.Dec.{ltb}
use lib.ListN.{get_or}
use Rattle.word.specs.Word.{far, near}
use Rattle.cell_map.specs.Rows.{gathered, finished}

-- Word y = a * width + k of the rows is word k of row a.
row_div : (a k width : ℕ) → k < width → (a * width + k) / width ≡ a
row_div a k width h = div-eq_of_lt-le width (omega arith) (omega arith)

pub row_mod : (a k width : ℕ) → k < width → (a * width + k) % width ≡ k
row_mod a k width h = mul-add-mod_self_right a width k ∙ mod-eq_of_lt h

-- The word of a cell that the map leads to cell q, by the word v of that cell.
abbrev pub led : ℕ → ℕ → ℕ → ℕ
led q width v = cond (ltb q width) v far

pub gathered_row : (t : List ℕ) (map next width a k : ℕ) → k < width →
    gathered t map next width (a * width + k) ≡ led (get_or t (map + k) 0) width (near (get_or t (next + (a * width + get_or t (map + k) 0)) 0))
unfolding gathered
gathered_row t map next width a k h = rw (row_div a k width h, row_mod a k width h) refl

pub finished_row : (t : List ℕ) (map width a k : ℕ) → k < width → finished t map width (a * width + k) ≡ led (get_or t (map + k) 0) width 0
unfolding finished
finished_row t map width a k h = rw (row_mod a k width h) refl

-- Row a begins at the map's row, which is the last one, or before it; the map's row ends where all rows end.
abbrev pub Room : ℕ → ℕ → ℕ → Type 0
Room a rows width = (a * width ≤ (rows - 1) * width) × ((rows - 1) * width + width ≡ rows * width)

pub row_room : (a rows width : ℕ) → a < rows → Room a rows width
row_room a rows width h =
    let top : a ≤ rows - 1 = omega arith in
    let last : rows - 1 + 1 ≡ rows = omega arith in
    (mul-le-mul_right width top, omega (arith, ap (λ (n : ℕ). n * width) last))
