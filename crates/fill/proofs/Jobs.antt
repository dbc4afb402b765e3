-- The table after a job more: its words are filled, as the word loops leave them, and all others are as they were.
-- Assumes nothing.
use mathlib.Core.Path.{◌≡◌, ◌∙◌}
use mathlib.Core.Logic.{◌⊎◌, inl, inr, ⊎_elim}
use mathlib.Core.List.{List}
use Prim.Native.Nat.{ℕ, suc, ◌+◌, ◌*◌, ◌-◌, ◌/◌, ◌%◌, ◌≤◌, ◌<◌}
use native.Mathlib.Nat.{div-add-mod', div-lt_iff_lt-mul, mod-lt, mul-pos}
use native.Mathlib.Decide.{dec_lt}
use native.Mathlib.Omega.{arith}
use lib.ListN.{get_or}
use Rattle.frame.specs.Sheet.{Sheet, Ranges}
use Rattle.frame.specs.Table.{energy_cells, temperature_cells, need, word_at}
use Rattle.table.specs.Table.{cells, base}
use Rattle.word.specs.Word.{far, settled}
use Rattle.open_ways.specs.declared.Move.{Move}
use Rattle.open_ways.specs.Moves.{Moving, relaxed_at}
use Rattle.relax.specs.Levels.{Levels}
use Rattle.moves.specs.Moves.{Moves}
use Rattle.follow.specs.Follow.{Expanded}
use Rattle.table.proofs.Places.{base_level, base_next, base_mono, base_need}
use Rattle.fill.specs.Layer.{FilledFrom}
use Rattle.fill.proofs.Layering.{moving, lows, relaxed_word}

module _ (s : Sheet) (ok : Ranges s) (i : ℕ) (hi : i < s.jobs) {moves : List (List Move)} {old mid new : List ℕ}
    (w : Moves s i moves) (x : Expanded s i old mid)
    (v : Levels mid new (base s i 0) s.levels (cells s) 0 (cells s) (λ (p y : ℕ). settled (relaxed_at moves mid (cells s) (base s i 0) p s.levels y)))
    (f : FilledFrom s (base s (suc i) 0) old old) where
  cells_some : 0 < cells s
  unfolding cells energy_cells temperature_cells
  cells_some = mul-pos (omega arith) (omega arith)

  -- Outside the job's words.
  other : (q : ℕ) → (q < base s i 0) ⊎ (base s (suc i) 0 ≤ q) → get_or new q 0 ≡ get_or old q 0
  other q o = v.outside q (⊎_elim (λ l. inl l) (λ l. inr (omega (arith, l, base_next s i 0))) o) ∙ x.kept.outside q o

  -- Inside them.
  inside : (q : ℕ) → base s i 0 ≤ q → q < base s (suc i) 0 → get_or new q 0 ≡ word_at s q
  inside q l u =
      let r = q - base s i 0 in
      let p = r / cells s in
      let y = r % cells s in
      let hp : p < s.levels = (div-lt_iff_lt-mul cells_some).1 (omega (arith, base_next s i 0)) in
      let hy : y < cells s = mod-lt r cells_some in
      let z : base s i 0 + p * cells s + y ≡ q = omega (arith, div-add-mod' r (cells s)) in
      let e = v.inside p y hp (omega arith) hy ∙ relaxed_word s ok i hi w x.ahead p y hp hy in
      rw (base_level s i p, z) at e

  pub filled_job : FilledFrom s (base s i 0) old new
  filled_job =
      record {
        most = omega (arith, f.most, base_mono s i (suc i) (omega arith));
        long = v.long ∙ x.kept.long;
        within = λ q l u.
            elim (dec_lt q (base s (suc i) 0)) [
              | yes g ↦ inside q l g
              | no g ↦ other q (inr (omega arith)) ∙ f.within q (omega arith) u
            ];
        beyond = λ q u. other q (inr (omega (arith, f.most)));
        ahead = λ q u. other q (inl u);
      }

-- ---- the same by the numbers that the code has

module _ (s : Sheet) (ok : Ranges s) (i : ℕ) (hi : i < s.jobs) {moves : List (List Move)} (w : Moves s i moves)
    {levels width at : ℕ} (l : levels ≡ s.levels) (c : width ≡ cells s) (a : at ≡ base s i 0) where
  pub moving_by : Moving levels width moves
  moving_by = rw (l, c) (moving s ok i hi w)

  pub room_by : at + levels * width ≤ need s
  room_by = rw (l, c, a) (omega (arith, base_next s i 0, base_mono s (suc i) s.jobs (omega arith), base_need s))

  module _ {old mid : List ℕ} (x : Expanded s i old mid) where
    pub lows_by : (j y : ℕ) → j < levels → 0 ≤ y → y < width → get_or mid (at + j * width + y) 0 ≤ far
    lows_by = rw (l, c, a) (lows s ok i hi w x.ahead)

    pub filled_by : {new : List ℕ} → FilledFrom s (base s (suc i) 0) old old →
        Levels mid new at levels width 0 width (λ (p y : ℕ). settled (relaxed_at moves mid width at p levels y)) → FilledFrom s (base s i 0) old new
    filled_by f v = filled_job s ok i hi w x (rw (l, c, a) at v) f
