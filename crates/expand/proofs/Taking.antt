-- Rows written one after the other, each from words that are not yet written over.
-- Assumes nothing.
use mathlib.Core.Path.{◌≡◌, refl, sym, ap, ◌∙◌}
use mathlib.Core.List.{List}
use Rattle.std.specs.Prelude.{Option, Some, None, IfSome}
use Prim.Native.Nat.{ℕ, ◌+◌, ◌*◌, ◌-◌, ◌≤◌, ◌<◌}
use native.Mathlib.Nat.{add-mul}
use native.Mathlib.Omega.{arith}
use lib.ListN.{length, get_or, take, drop}
use Rattle.std.proofs.lemmas.List.{get_or-take, get_or-drop, length-take-le, length-drop}
use borrow.Author.Tests.{lt-ltb, le-ltb}
use Rattle.word.specs.Word.{far, near}
use Rattle.spans.specs.Spans.{Spans}
use Rattle.spans.proofs.Stepping.{spans_behind, spans_on}
use Rattle.cell_map.specs.declared.rows.Rows.{Rows}
use Rattle.cell_map.specs.Rows.{gathered, finished, Leading, Behind}
use Rattle.cell_map.proofs.Cells.{led, gathered_row, finished_row, row_room}
use Rattle.expand.specs.Laid.{lead, laid}

-- What the map as a slice leads to, in the words of the table.
pub leading_words : {t : List ℕ} {at map width n : ℕ} → at ≡ map → at + width ≤ length t →
    let xs = take (at + width - at) (drop at t) in Leading xs 0 (length xs) n → Leading t map width n
leading_words {t} {at} {map} {width} {n} e room l =
    let xs = take (at + width - at) (drop at t) in
    let long : length xs ≡ width = length-take-le (at + width - at) (drop at t) (omega (arith, room, length-drop at t)) ∙ omega arith in
    let read : (k : ℕ) → k < width → get_or xs (0 + k) 0 ≡ get_or t (map + k) 0 =
    (λ k h.
    let z : 0 + k ≡ k = omega arith in
    rw (z, ← e) (get_or-take (at + width - at) (drop at t) k 0 (omega arith) ∙ get_or-drop at t k 0)) in
    record {
      most = omega (arith, l.most, long);
      within = λ k h. omega (arith, l.within k h, read k (omega (arith, l.most, long)), long);
      beyond = λ k h g. omega (arith, l.beyond k h (omega (arith, long)), read k g, long);
    }

module _ (old : List ℕ) (map width n : ℕ) (lead : Leading old map width n) where
  -- One row more: its first n cells by the words v of the cells that the map names, and `far`.
  module _ (at a : ℕ) (h v : ℕ → ℕ) (e : (k : ℕ) → k < width → h (a * width + k) ≡ led (get_or old (map + k) 0) width (v k)) where
    row_more : {mid half new : List ℕ} {f : ℕ → ℕ} → Spans old mid at (a * width) h → Spans mid half (at + a * width) n f → ((k : ℕ) → k < n → f k ≡ v k)
        → Spans half new (at + a * width + n) (width - n) (λ (k : ℕ). far) → Spans old new at ((a + 1) * width) h
    row_more {half = half} {new = new} u w z x =
        let first : Spans old half at (a * width + n) h =
        spans_on u w
        (λ k l. z k l ∙ sym (e k (omega (arith, lead.most)) ∙ rw (lt-ltb _ _ (lead.within k l)) refl)) in
        let s : at + a * width + n ≡ at + (a * width + n) = omega arith in
        let rest : Spans half new (at + (a * width + n)) (width - n) (λ (k : ℕ). far) = rw s at x in
        let all : Spans old new at (a * width + n + (width - n)) h =
        spans_on first rest
        (λ k l.
        let y : a * width + n + k ≡ a * width + (n + k) = omega arith in
        rw y (sym (e (n + k) (omega arith) ∙ rw (le-ltb _ _ (lead.beyond (n + k) (omega arith) (omega arith))) refl))) in
        let y : a * width + n + (width - n) ≡ (a + 1) * width = omega (arith, lead.most, add-mul a 1 width) in
        rw y at all

module _ (old : List ℕ) (r : Rows) (n a : ℕ) (h : a < r.count) where
  -- The place of the map.
  abbrev map : ℕ
  map = r.at + (r.count - 1) * r.width

  module _ (leading : Leading old map r.width n) where
    -- With row a the rows up to a are written: the map and the next job's row were still the old ones.
    gathered_more :
        (next : ℕ) {mid half new : List ℕ} → r.at + r.count * r.width ≤ next → Spans old mid r.at (a * r.width) (λ (y : ℕ). gathered old map next r.width y)
        → Spans mid half (r.at + a * r.width) n (λ (k : ℕ). near (get_or mid (next + a * r.width + get_or mid (map + k) 0) 0))
        → Spans half new (r.at + a * r.width + n) (r.width - n) (λ (k : ℕ). far) → Spans old new r.at ((a + 1) * r.width) (λ (y : ℕ). gathered old map next r.width y)
    gathered_more next {mid} room u w x =
        let fits = row_room a r.count r.width h in
        row_more old map r.width n leading r.at a (gathered old map next r.width) (λ k. near (get_or old (next + (a * r.width + get_or old (map + k) 0)) 0)) (λ k l. gathered_row old map next r.width a k l) u w
        (λ k l.
        let q = get_or old (map + k) 0 in
        let y : next + a * r.width + q ≡ next + (a * r.width + q) = omega arith in
        rw (spans_behind u (map + k) (omega (arith, fits)), y) (ap (λ (z : ℕ). near z) (spans_behind u (next + (a * r.width + q)) (omega (arith, fits)))))
        x

    -- Either way.
    pub laid_more :
        (next : Option ℕ) {mid half new : List ℕ} → IfSome next (λ p. Behind old r p) → Spans old mid r.at (a * r.width) (λ (y : ℕ). laid old map next r.width y)
        → Spans mid half (r.at + a * r.width) n (λ (k : ℕ). lead mid map next (a * r.width) k)
        → Spans half new (r.at + a * r.width + n) (r.width - n) (λ (k : ℕ). far) → Spans old new r.at ((a + 1) * r.width) (λ (y : ℕ). laid old map next r.width y)
    laid_more (Some next) b u w x = gathered_more next b.behind u w x
    laid_more None b u w x = row_more old map r.width n leading r.at a (finished old map r.width) (λ k. 0) (λ k l. finished_row old map r.width a k l) u w (λ k l. refl) x
