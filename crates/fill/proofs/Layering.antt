-- What the word loops leave are the words of a job: by induction over the levels entered, from its moves and from what follows it.
-- Assumes nothing.
use mathlib.Core.Path.{◌≡◌, sym, ap, ◌∙◌}
use mathlib.Core.List.{List}
use Prim.Native.Nat.{ℕ, zero, suc, ◌+◌, ◌*◌, ◌/◌, ◌%◌, ◌≤◌, ◌<◌}
use native.Mathlib.Decide.{dec_lt}
use native.Mathlib.Omega.{arith}
use lib.ListN.{get_or}
use borrow.Author.Tests.{lt-ltb, le-ltb}
use Rattle.frame.specs.Sheet.{Sheet, Ranges}
use Rattle.frame.specs.Table.{temperature_cells, word, word_at}
use Rattle.frame.proofs.Table.{word_at_place}
use Rattle.table.specs.Table.{cells, base}
use Rattle.word.specs.Word.{far, settled}
use Rattle.open_ways.specs.declared.Move.{Move}
use Rattle.open_ways.specs.Moves.{Moving, relaxed_at}
use Rattle.moves.specs.Moves.{shift_of, reach_of, Moves}
use Rattle.moves.proofs.Reach.{reach_shift, moved_time}
use Rattle.follow.specs.Follow.{follows_at, Ahead}
use Rattle.table.proofs.Places.{energy_of, temperature_of, base_level, base_word}
use Rattle.fill.specs.Layer.{up_to_at}
use Rattle.fill.proofs.Moving.{up_none, up_word, follows_most}
use Rattle.fill.proofs.Flat.{shift_within, up_reach, up_beyond}

pub word_flat : (s : Sheet) (i j y : ℕ) → j < s.levels → y < cells s → word_at s (base s i j + y) ≡ word s i j (y / temperature_cells s) (y % temperature_cells s)
word_flat s i j y h l = ap (word_at s) (base_word s i j y) ∙ word_at_place s i j _ _ h (energy_of s y l) (temperature_of s y)

module _ (s : Sheet) (ok : Ranges s) (i : ℕ) (hi : i < s.jobs) {moves : List (List Move)} (w : Moves s i moves) where
  -- What the word loops rest on.
  pub moving : Moving s.levels (cells s) moves
  moving =
      record {
        most = ok.levels.high;
        within = λ p j hp hj. rw (w.each p j hp hj) (reach_shift s ok i p j);
        short = λ p j hp hj. rw (w.each p j hp hj) (moved_time s ok i p j);
      }

  module _ {t : List ℕ} (h : Ahead s i s.levels t) where
    pub lows : (j y : ℕ) → j < s.levels → 0 ≤ y → y < cells s → get_or t (base s i 0 + j * cells s + y) 0 ≤ far
    lows j y hj l hy = rw (← base_level s i j, h.words j y hj hy) (follows_most s i j _ _)

    -- The least time by the first k levels.
    module _ (p y : ℕ) (hp : p < s.levels) (hy : y < cells s) where
      relaxed_up : (k : ℕ) → k ≤ s.levels → relaxed_at moves t (cells s) (base s i 0) p k y ≡ up_to_at s i p k y
      unfolding relaxed_at
      relaxed_up zero l = sym (up_none s i p _ _)
      relaxed_up (suc k) l =
          let hk : k < s.levels = omega arith in
          let z : k + 1 ≡ suc k = omega arith in
          rw (w.each p k hp hk, relaxed_up k (omega arith), ← z)
          (elim (dec_lt y (reach_of s i p k)) [
            | yes r ↦
                let e : get_or t (base s i 0 + k * cells s + (y + shift_of s i p k)) 0 ≡ follows_at s i k (y + shift_of s i p k) =
                rw (← base_level s i k) (h.words k _ hk (shift_within s ok i p k y r)) in
                rw (lt-ltb y (reach_of s i p k) r, e) (sym (up_reach s ok i p k y r hi hp hk hy))
            | no r ↦ rw (le-ltb y (reach_of s i p k) (omega arith)) (sym (up_beyond s ok i p k y hi hp hk hy (omega arith)))
          ])

      pub relaxed_word : settled (relaxed_at moves t (cells s) (base s i 0) p s.levels y) ≡ word_at s (base s i p + y)
      relaxed_word = ap (λ (x : ℕ). settled x) (relaxed_up s.levels (omega arith)) ∙ up_word s ok i p _ _ hi ∙ sym (word_flat s i p y hp hy)
