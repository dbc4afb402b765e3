-- One level's part more with each turn of the loop, until all levels have theirs.
use mathlib.Core.Path.{◌≡◌, ap, ◌∙◌}
use mathlib.Core.List.{List, [], ◌++◌}
use Prim.Native.Nat.{ℕ, ◌+◌, ◌<◌}
use native.Mathlib.Decide.{dec_lt}
use native.Mathlib.Omega.{arith}
use lib.ListN.{length, get_or, set, take, get_or-append}
use lib.Seq.{get_or-set_same, get_or-set_other, take-append_seam}
use Rattle.std.proofs.lemmas.List.{length-take-le}
use Rattle.frame.specs.Table.{tabulate}
use Rattle.frame.proofs.Tabulate.{length_tabulate}
use Rattle.relax.proofs.relax_part.Goals as goal

row_more : (rows : List (List ℕ)) (p n : ℕ) (f : ℕ → ℕ → ℕ) {words : List ℕ} (rest : List ℕ) → p < length rows → words ≡ tabulate (f p) 0 n → ((k : ℕ) → k < p → take n (get_or rows k []) ≡ tabulate (f k) 0 n)
    → (k : ℕ) → k < p + 1 → take n (get_or (set rows p (words ++ rest)) k []) ≡ tabulate (f k) 0 n
row_more rows p n f {words} rest room e before k h =
    elim (dec_lt k p) [
      | yes l ↦ ap (take n) (get_or-set_other rows p k (words ++ rest) [] (λ z. absurd (omega arith))) ∙ before k l
      | no l ↦
          let z : k ≡ p = omega arith in
          let m : length words ≡ n = rw e (length_tabulate (f p) 0 n) in
          rw z (ap (take n) (get_or-set_same rows p (words ++ rest) [] room) ∙ rw (← m) (take-append_seam words rest) ∙ e)
    ]

pub loop-p-init : goal.loop-p-init
loop-p-init c = λ k h. absurd (omega arith)

pub loop-p-preserved : goal.loop-p-preserved
loop-p-preserved c = row_more c.loop-p.row-items c.loop-p.p c.args.n _ _ (omega (arith, c.loop-p.auto.row-items, c.loop-p-test.true)) (c.relax_level.ensures ∙ ap (tabulate _ 0) c.split_at_mut-words.ensures.front_len) c.loop-p.invariant

pub returns : goal.returns
returns c =
    λ p h.
    let m = length-take-le c.args.layer.now.levels c.args.part.now (omega (arith, c.args.layer.now.moving.most)) in
    ap (take c.args.n) (get_or-append c.loop-p.row-items _ [] p (omega (arith, c.loop-p.auto.row-items, m))) ∙ c.loop-p.invariant p (omega (arith, c.loop-p-test.false, m))
