-- A run of words that are set one by one: one more; a run behind another; a run in a part of the words.
-- Assumes nothing.
use mathlib.Core.Path.{◌≡◌, ap, ◌∙◌}
use mathlib.Core.Logic.{◌⊎◌, inl, inr, ⊎_elim}
use mathlib.Core.List.{List}
use Prim.Native.Nat.{ℕ, ◌+◌, ◌-◌, ◌≤◌, ◌<◌}
use native.Mathlib.Nat.{eq-or-lt_of_le}
use native.Mathlib.Decide.{dec_lt}
use native.Mathlib.Omega.{arith}
use lib.ListN.{length, get_or, set, length-set}
use borrow.Rule.Slice.PartMut.{put_mid}
use lib.Seq.{get_or-set_same, get_or-set_other}
use Rattle.std.proofs.lemmas.Grind.{common_steps}
use Rattle.spans.specs.Spans.{Spans}

-- A place outside a run is outside the run without its last word, and is not that word's.
outside_less : (at k q : ℕ) → (q < at) ⊎ (at + (k + 1) ≤ q) → (q < at) ⊎ (at + k ≤ q)
outside_less at k q (inl h) = inl h
outside_less at k q (inr h) = inr (omega arith)

outside_last : (at k q : ℕ) → (q < at) ⊎ (at + (k + 1) ≤ q) → q ≡ at + k → ⊥
outside_last at k q (inl h) e = absurd (omega arith)
outside_last at k q (inr h) e = absurd (omega arith)

module _ {old new : List ℕ} {at k : ℕ} {f : ℕ → ℕ} (w : Spans old new at k f) where
  -- What stands behind the words that are set is as it was.
  pub spans_behind : (q : ℕ) → at + k ≤ q → get_or new q 0 ≡ get_or old q 0
  spans_behind q h = w.outside q (inr h)

  spans_room : {n : ℕ} → k < n → at + n ≤ length old → at + k < length new
  spans_room h room = omega (arith, w.long)

  pub spans_more : {n : ℕ} → k < n → at + n ≤ length old → (v : ℕ) → v ≡ f k → Spans old (set new (at + k) v) at (k + 1) f
  spans_more h room v e =
      record {
        long = length-set new (at + k) v ∙ w.long;
        inside =
            λ q l. let g : q ≤ k = omega arith in
            ⊎_elim (λ z. rw z (get_or-set_same new (at + k) v 0 (spans_room h room) ∙ e)) (λ z. get_or-set_other new (at + k) (at + q) v 0 (λ i. absurd (omega arith)) ∙ w.inside q z) (eq-or-lt_of_le g);
        outside = λ q l. get_or-set_other new (at + k) q v 0 (outside_last at k q l) ∙ w.outside q (outside_less at k q l);
      }

-- A run of n words behind one of m words.
pub spans_on : {old mid new : List ℕ} {at m n : ℕ} {f g : ℕ → ℕ} → Spans old mid at m f → Spans mid new (at + m) n g → ((k : ℕ) → k < n → g k ≡ f (m + k)) → Spans old new at (m + n) f
spans_on {new = new} {at} {m} {f = f} v w e =
    record {
      long = w.long ∙ v.long;
      inside =
          λ k h. elim (dec_lt k m) [
            | yes l ↦ w.outside (at + k) (inl (omega arith)) ∙ v.inside k l
            | no l ↦
                let i = k - m in
                let z : m + i ≡ k = omega arith in
                ap (λ (q : ℕ). get_or new q 0) (omega arith) ∙ w.inside i (omega arith) ∙ e i (omega arith) ∙ ap f z
          ];
      outside = λ q h. ⊎_elim (λ l. w.outside q (inl (omega arith)) ∙ v.outside q (inl l)) (λ l. w.outside q (inr (omega arith)) ∙ v.outside q (inr (omega arith))) h;
    }

-- A run that is set in a part of the words alone.
pub spans_within : (old ys : List ℕ) (at n e : ℕ) {f : ℕ → ℕ} → at + n ≤ length old → e ≡ n → length ys ≡ n → ((k : ℕ) → k < n → get_or ys k 0 ≡ f k) → Spans old (put_mid at e old ys) at n f
spans_within old ys at n e room k l w = record { long = grind (arith, common_steps); inside = λ q h. grind (arith, common_steps, w q h); outside = λ q h. grind (arith, common_steps) }
