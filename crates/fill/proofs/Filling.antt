-- A table that is filled from a place on: nothing at its end, one part more where it was filled behind that, and from place 0 the whole
-- table, word by word.
-- Assumes nothing.
use mathlib.Core.Path.{◌≡◌, refl, sym, ap, ◌∙◌}
use mathlib.Core.List.{List, ◌++◌}
use Prim.Native.Nat.{ℕ, ◌+◌, ◌*◌, ◌-◌, ◌≤◌, ◌<◌}
use native.Mathlib.Nat.{zero-add}
use native.Mathlib.Decide.{dec_lt}
use native.Mathlib.Omega.{arith}
use lib.ListN.{get_or, length, drop, length-append, length-drop, get_or-append}
use lib.Seq.{ext_get_or, get_or-append-add, get_or-drop}
use Rattle.frame.specs.Sheet.{Sheet}
use Rattle.frame.specs.Table.{energy_cells, temperature_cells, need, place, word_at, tabulate, filled}
use Rattle.frame.proofs.Table.{place_lt, word_at_place}
use Rattle.frame.proofs.Tabulate.{length_tabulate, get_d_tabulate}
use Rattle.table.specs.Table.{Holds}
use Rattle.table.proofs.Cells.{place_from}
use Rattle.fill.specs.Layer.{FilledFrom}

pub filled_none : (s : Sheet) (old : List ℕ) → FilledFrom s (need s) old old
filled_none s old = record { most = omega arith; long = refl; within = λ q l h. absurd (omega arith); beyond = λ q h. refl; ahead = λ q h. refl }

pub filled_trans : {s : Sheet} {j k : ℕ} {old mid new : List ℕ} → k ≤ j → FilledFrom s j old mid → FilledFrom s k mid new → FilledFrom s k old new
filled_trans g v w =
    record { most = w.most; long = w.long ∙ v.long; within = w.within; beyond = λ q h. w.beyond q h ∙ v.beyond q h; ahead = λ q h. w.ahead q h ∙ v.ahead q (omega arith) }

-- The words of more jobs done than the last filled cell's are in the table.
pub filled_holds : {s : Sheet} {k : ℕ} {old new : List ℕ} (i : ℕ) → k ≤ i * s.levels * energy_cells s * temperature_cells s →
    FilledFrom s k old new → Holds s new i
unfolding need
filled_holds {s} i l w =
    record {
      words = λ h p x y hp hx hy.
          w.within (place s i p x y) (omega (arith, place_from s i p x y)) (place_lt s i p x y hp hx hy s.jobs h) ∙ word_at_place s i p x y hp hx hy;
    }

-- ---- the whole table

module _ (s : Sheet) (old new : List ℕ) (room : need s ≤ length old) (w : FilledFrom s 0 old new) where
  abbrev words : List ℕ
  words = tabulate (word_at s) 0 (need s)

  filled_within : (i : ℕ) → i < need s → get_or new i 0 ≡ get_or (words ++ drop (need s) old) i 0
  filled_within i h =
      w.within i (omega arith) h ∙ ap (word_at s) (sym (zero-add i)) ∙ sym (get_d_tabulate (word_at s) 0 (need s) i h)
      ∙ sym (get_or-append words (drop (need s) old) 0 i (omega (arith, length_tabulate (word_at s) 0 (need s))))

  filled_beyond : (i : ℕ) → need s ≤ i → get_or new i 0 ≡ get_or (words ++ drop (need s) old) i 0
  filled_beyond i h =
      let z : i ≡ length words + (i - need s) = omega (arith, length_tabulate (word_at s) 0 (need s)) in
      let y : need s + (i - need s) ≡ i = omega arith in
      w.beyond i h ∙ ap (λ (q : ℕ). get_or old q 0) (sym y) ∙ sym (get_or-drop (need s) old (i - need s) 0)
      ∙ sym (get_or-append-add words (drop (need s) old) (i - need s) 0) ∙ ap (λ (q : ℕ). get_or (words ++ drop (need s) old) q 0) (sym z)

  pub filled_all : new ≡ filled s old
  unfolding filled
  filled_all =
      ext_get_or 0 new _ (simp (length-append, length_tabulate, length-drop) (omega (arith, w.long)))
      (λ i h.
      elim (dec_lt i (need s)) [
        | yes l ↦ filled_within i l
        | no l ↦ filled_beyond i (omega arith)
      ])
