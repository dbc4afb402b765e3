-- The words of one job, level by level: one more level's words, one more run of words.
-- Assumes nothing.
use mathlib.Core.Path.{◌≡◌, refl, sym, ap, ap₂, ◌∙◌}
use mathlib.Core.Logic.{◌⊎◌, inl, inr}
use mathlib.Core.List.{List, []}
use Prim.Native.Nat.{ℕ, zero, suc, ◌+◌, ◌*◌, ◌-◌, ◌≤◌, ◌<◌, min}
use native.Mathlib.Nat.{add-mul, one-mul}
use native.Mathlib.Omega.{arith}
use Rattle.std.proofs.lemmas.Nat.{row_fits}
use native.Mathlib.Decide.{dec_lt}
use lib.ListN.{get_or, take}
use Rattle.std.proofs.lemmas.List.{get_or-take}
use Rattle.frame.specs.Table.{tabulate}
use Rattle.frame.proofs.Tabulate.{get_d_tabulate}
use Rattle.word.specs.Word.{settled}
use Rattle.spans.specs.Spans.{Spans}
use Rattle.open_ways.specs.declared.layer.Layer.{Layer}
use Rattle.open_ways.specs.Moves.{move_at, relaxed_at}
use Rattle.open_ways.specs.Layer.{relaxed, relaxed_by}
use Rattle.open_ways.proofs.Moves.{relaxed_on, relaxed_off}
use Rattle.relax.specs.Levels.{Levels}

-- ---- a run of words

-- A place outside a run is outside a part of it.
outside_part : (at n a m q : ℕ) → at ≤ a → a + m ≤ at + n → (q < at) ⊎ (at + n ≤ q) → (q < a) ⊎ (a + m ≤ q)
outside_part at n a m q h l (inl z) = inl (omega arith)
outside_part at n a m q h l (inr z) = inr (omega arith)

-- ---- one more level's words

module _ {old mid new : List ℕ} {at p cells x n : ℕ} {f : ℕ → ℕ → ℕ} {g : ℕ → ℕ} (room : x + n ≤ cells) (v : Levels old mid at p cells x (x + n) f)
    (w : Spans mid new (at + p * cells + x) n g) where
  -- The words of the levels before stand before those of level p.
  before : (k y : ℕ) → k < p → y < cells → get_or new (at + k * cells + y) 0 ≡ get_or mid (at + k * cells + y) 0
  before k y h l = w.outside (at + k * cells + y) (inl (omega (arith, row_fits k cells p cells h (omega arith))))

  -- The words of level p beside the run, and what is beside all words of the levels up to p.
  aside : (y : ℕ) → (y < x) ⊎ (x + n ≤ y) → (at + p * cells + y < at + p * cells + x) ⊎ (at + p * cells + x + n ≤ at + p * cells + y)
  aside y (inl h) = inl (omega arith)
  aside y (inr h) = inr (omega arith)

  wide : (q : ℕ) → (q < at) ⊎ (at + (p + 1) * cells ≤ q) → (q < at + p * cells + x) ⊎ (at + p * cells + x + n ≤ q)
  wide q h = outside_part at ((p + 1) * cells) (at + p * cells + x) n q (omega arith) (omega (arith, add-mul p 1 cells, one-mul cells)) h

  less : (q : ℕ) → (q < at) ⊎ (at + (p + 1) * cells ≤ q) → (q < at) ⊎ (at + p * cells ≤ q)
  less q h = outside_part at ((p + 1) * cells) at (p * cells) q (omega arith) (omega (arith, add-mul p 1 cells)) h

  -- The run of level p after those of the levels before.
  pub levels_more : ((y : ℕ) → x ≤ y → y < x + n → g (y - x) ≡ f p y) → Levels old new at (p + 1) cells x (x + n) f
  levels_more is =
      record {
        long = w.long ∙ v.long;
        inside = λ k y h l g.
            elim (dec_lt k p) [
              | yes z ↦ before k y z (omega arith) ∙ v.inside k y z l g
              | no z ↦
                  let e : k ≡ p = omega arith in
                  let s : at + p * cells + y ≡ at + p * cells + x + (y - x) = omega arith in
                  rw e (ap (λ (q : ℕ). get_or new q 0) s ∙ w.inside (y - x) (omega arith) ∙ is y (omega arith) (omega arith))
            ];
        level = λ k y h l g.
            elim (dec_lt k p) [
              | yes z ↦ before k y z l ∙ v.level k y z l g
              | no z ↦
                  let e : k ≡ p = omega arith in
                  rw e (w.outside (at + p * cells + y) (aside y g) ∙ v.outside (at + p * cells + y) (inr (omega arith)))
            ];
        outside = λ q h. w.outside q (wide q h) ∙ v.outside q (less q h);
      }

-- ---- one more run of words of every level

module _ (layer : Layer) {x : ℕ} {old mid : List ℕ} {f : ℕ → ℕ → ℕ} (v : Levels old mid layer.at layer.levels layer.cells 0 x f) where
  -- The words from x on are as they were.
  kept : (p y : ℕ) → p < layer.levels → x ≤ y → y < layer.cells → get_or mid (layer.at + p * layer.cells + y) 0 ≡ get_or old (layer.at + p * layer.cells + y) 0
  kept p y h l g = v.level p y h g (inr l)

  -- What is worked out from them is what is worked out from the table as it was.
  relaxed_kept : (p : ℕ) → p < layer.levels → (k y : ℕ) → k ≤ layer.levels → x ≤ y → relaxed_by layer mid p k y ≡ relaxed_by layer old p k y
  unfolding relaxed_at
  relaxed_kept p hp zero y h l = refl
  relaxed_kept p hp (suc k) y h l =
      let m = move_at layer.moves.now p k in
      let same = relaxed_kept p hp k y (omega arith) l in
      elim (dec_lt y m.reach) [
        | yes g ↦
            let z = kept k (y + m.shift) (omega arith) (omega arith) (omega (arith, layer.moving.within p k hp (omega arith))) in
            relaxed_on layer.moves.now mid layer.cells layer.at p k y g
            ∙ ap₂ (λ (a b : ℕ). min a (m.time + b)) same z
            ∙ sym (relaxed_on layer.moves.now old layer.cells layer.at p k y g)
        | no g ↦
            relaxed_off layer.moves.now mid layer.cells layer.at p k y (omega arith)
            ∙ same
            ∙ sym (relaxed_off layer.moves.now old layer.cells layer.at p k y (omega arith))
      ]

  -- The words from x to x + n after those before x.
  pub levels_on : (part : List (List ℕ)) (new : List ℕ) (n : ℕ) → x + n ≤ layer.cells
      → ((p y : ℕ) → f p y ≡ settled (relaxed layer old p y))
      → ((p : ℕ) → p < layer.levels → take n (get_or part p []) ≡ tabulate (λ (q : ℕ). settled (relaxed layer mid p (x + q))) 0 n)
      → Levels mid new layer.at layer.levels layer.cells x (x + n) (λ (p y : ℕ). get_or (get_or part p []) (y - x) 0)
      → Levels old new layer.at layer.levels layer.cells 0 (x + n) f
  levels_on part new n room is d w =
      record {
        long = w.long ∙ v.long;
        inside = λ p y h l g.
            elim (dec_lt y x) [
              | yes z ↦ w.level p y h (omega arith) (inl z) ∙ v.inside p y h l z
              | no z ↦
                  let e : x + (0 + (y - x)) ≡ y = omega arith in
                  w.inside p y h (omega arith) g
                  ∙ sym (get_or-take n (get_or part p []) (y - x) 0 (omega arith))
                  ∙ ap (λ (ws : List ℕ). get_or ws (y - x) 0) (d p h)
                  ∙ get_d_tabulate (λ (q : ℕ). settled (relaxed layer mid p (x + q))) 0 n (y - x) (omega arith)
                  ∙ ap (λ (z : ℕ). settled (relaxed layer mid p z)) e
                  ∙ ap settled (relaxed_kept p h layer.levels y (omega arith) (omega arith))
                  ∙ sym (is p y)
            ];
        level = λ p y h l g. w.level p y h l (later g) ∙ v.level p y h l (sooner g);
        outside = λ q h. w.outside q h ∙ v.outside q h;
      }
    where
      later : {y : ℕ} → (y < 0) ⊎ (x + n ≤ y) → (y < x) ⊎ (x + n ≤ y)
      later (inl h) = absurd (omega arith)
      later (inr h) = inr h

      sooner : {y : ℕ} → (y < 0) ⊎ (x + n ≤ y) → (y < 0) ⊎ (x ≤ y)
      sooner (inl h) = inl h
      sooner (inr h) = inr (omega arith)
