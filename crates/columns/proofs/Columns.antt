-- Columns written one after the other: none, one column more, all.
-- Assumes nothing.
use mathlib.Core.Path.{◌≡◌, refl, sym, ap, ◌∙◌}
use mathlib.Core.Logic.{⊎_elim}
use mathlib.Core.List.{List}
use Prim.Native.Nat.{ℕ, ◌+◌, ◌*◌, ◌-◌, ◌/◌, ◌%◌, ◌≤◌, ◌<◌}
use native.Mathlib.Nat.{add-mul, div-add-mod', div-lt_iff_lt-mul, mod-lt, mul-le-mul_right}
use native.Mathlib.Decide.{dec_lt}
use native.Mathlib.Omega.{arith}
use lib.ListN.{length, get_or}
use Rattle.word.specs.Word.{near}
use Rattle.spans.specs.Spans.{Spans}
use Rattle.cell_map.specs.Rows.{gathered}
use Rattle.cell_map.proofs.Cells.{row_mod, led, gathered_row}
use Rattle.one_column.specs.Column.{Column}

-- The first b columns of the rows from place `at` on hold h; all other words are as they were.
pub record Columns (old new : List ℕ) (at rows width b : ℕ) (h : ℕ → ℕ) : Type 0 where
  pub long : length new ≡ length old
  pub inside : (a k : ℕ) → a < rows → k < b → get_or new (at + (a * width + k)) 0 ≡ h (a * width + k)
  pub outside : (q : ℕ) → ((a k : ℕ) → a < rows → k < b → q ≡ at + (a * width + k) → ⊥) → get_or new q 0 ≡ get_or old q 0

pub columns_none : (ws : List ℕ) (at rows width : ℕ) (h : ℕ → ℕ) → Columns ws ws at rows width 0 h
columns_none ws at rows width h = record { long = refl; inside = λ a k l g. absurd (omega arith); outside = λ q l. refl }

-- Words of two columns stand at two places.
apart : (a c k b width : ℕ) → k < b → b < width → a * width + k ≡ c * width + b → ⊥
apart a c k b width h l e =
    let z : k ≡ b = sym (row_mod a k width (omega arith)) ∙ ap (λ (y : ℕ). y % width) e ∙ row_mod c b width l in
    absurd (omega arith)

module _ {old mid : List ℕ} {at rows width b : ℕ} {h : ℕ → ℕ} (u : Columns old mid at rows width b h) where
  pub columns_more : {new : List ℕ} {f : ℕ → ℕ} → b < width → Column mid new (at + b) rows width f → ((a : ℕ) → a < rows → f a ≡ h (a * width + b)) →
      Columns old new at rows width (b + 1) h
  columns_more {new} narrow w e =
      record {
        long = w.long ∙ u.long;
        inside =
            λ a k l g. elim (dec_lt k b) [
              | yes m ↦ w.outside (at + (a * width + k)) (λ c n z. apart a c k b width m narrow (omega arith)) ∙ u.inside a k l m
              | no m ↦
                  let z : k ≡ b = omega arith in
                  rw z (ap (λ (q : ℕ). get_or new q 0) (omega arith) ∙ w.inside a l ∙ e a l)
            ];
        outside = λ q l. w.outside q (λ c n z. l c b n (omega arith) (omega arith)) ∙ u.outside q (λ c k n m z. l c k n (omega arith) z);
      }

  -- A column that is not yet written, and what stands behind the rows.
  pub columns_left : (a : ℕ) → b < width → get_or mid (at + (a * width + b)) 0 ≡ get_or old (at + (a * width + b)) 0
  columns_left a narrow = u.outside (at + (a * width + b)) (λ c k l m z. apart c a k b width m narrow (omega arith))

  pub columns_behind : b ≤ width → (q : ℕ) → at + rows * width ≤ q → get_or mid q 0 ≡ get_or old q 0
  columns_behind narrow q l =
      u.outside q (λ c k n m z. let g : c + 1 ≤ rows = omega arith in absurd (omega (arith, mul-le-mul_right width g, add-mul c 1 width)))

  pub columns_all : 1 ≤ width → b ≤ width → width ≤ b → Spans old mid at (rows * width) h
  columns_all some narrow l =
      record {
        long = u.long;
        inside =
            λ y g.
            let z : y / width * width + y % width ≡ y = div-add-mod' y width in
            ap (λ (q : ℕ). get_or mid (at + q) 0) (sym z) ∙ u.inside (y / width) (y % width) ((div-lt_iff_lt-mul some).1 g) (omega (arith, mod-lt y some)) ∙ ap h z;
        outside = λ q g. u.outside q (λ c k n m z. let x : c + 1 ≤ rows = omega arith in ⊎_elim (λ o. absurd (omega arith)) (λ o. absurd (omega (arith, mul-le-mul_right width x, add-mul c 1 width))) g);
      }

-- With column b the columns up to b are written: its cell of the map and the next job's rows were still the old ones.
module _ (old : List ℕ) (at rows width next b : ℕ) (some : 1 ≤ rows) (narrow : b < width) (room : at + rows * width ≤ next) where
  abbrev map : ℕ
  map = at + (rows - 1) * width

  pub gathered_column : {mid new : List ℕ} (q : ℕ) → q ≡ get_or mid (map + b) 0 → Columns old mid at rows width b (gathered old map next width)
      → Column mid new (at + b) rows width (λ (a : ℕ). led q width (near (get_or mid (next + q + a * width) 0)))
      → Columns old new at rows width (b + 1) (gathered old map next width)
  gathered_column {mid} q e u w =
      let y : map + b ≡ at + ((rows - 1) * width + b) = omega arith in
      let z : q ≡ get_or old (map + b) 0 = rw y (rw y at e ∙ columns_left u (rows - 1) narrow) in
      columns_more u narrow w
      (λ a l.
      let x : next + q + a * width ≡ next + (a * width + q) = omega arith in
      rw (x, columns_behind u (omega arith) (next + (a * width + q)) (omega arith))
      (sym (gathered_row old map next width a b narrow ∙ rw (← z) refl)))
