-- One more span of a level's words, and what it rests on.
-- Assumes nothing.
use mathlib.Core.Path.{◌≡◌, ap, ◌∙◌}
use mathlib.Core.List.{List}
use Prim.Native.Nat.{ℕ, ◌+◌, ◌*◌, ◌-◌, ◌≤◌, ◌<◌}
use native.Mathlib.Nat.{zero-add}
use native.Mathlib.Omega.{arith}
use lib.ListN.{length, get_or, take, drop, length-take, length-drop}
use Rattle.word.specs.Word.{settled}
use borrow.Rule.Slice.PartMut.{put_mid}
use Rattle.std.proofs.lemmas.Grind.{common_steps}
use native.Mathlib.Decide.{dec_lt}
use Rattle.frame.specs.Table.{tabulate}
use Rattle.frame.proofs.Tabulate.{length_tabulate, get_d_tabulate}
use Rattle.one_way.specs.declared.Way.{Way}
use Rattle.one_way.specs.Way.{Leads}
use Rattle.least_way.specs.Least.{least_by}
use Rattle.open_ways.specs.declared.layer.Layer.{Layer}
use Rattle.open_ways.specs.Layer.{Lows, relaxed, Open}

pub lows_later : {layer : Layer} {x y : ℕ} {table : List ℕ} → x ≤ y → Lows layer x table → Lows layer y table
lows_later h w = record { low = λ j z hj l g. w.low j z hj (omega arith) g }

-- The words up to y, and then those of the span, which stand from place a on.
pub span_more : {x y to a e : ℕ} (old : List ℕ) (f : ℕ → ℕ) {g : ℕ → ℕ} {span : List ℕ} → x ≤ y → y < to → to ≤ x + length old → a ≡ y - x → e ≡ to - y
    → ((q : ℕ) → q < y - x → get_or old q 0 ≡ f q) → ((q : ℕ) → q < to - y → g q ≡ f (y - x + q)) → span ≡ tabulate g 0 (length (take e (drop a old)))
    → (q : ℕ) → q < to - x → get_or (put_mid a e old span) q 0 ≡ f q
span_more {x} {y} {to} {a} {e} old f {g} {span} h k room z m v d w q l =
    let long : length (take e (drop a old)) ≡ to - y = simp (length-take, length-drop) (omega arith) in
    elim (dec_lt q a) [
      | yes s ↦ grind (arith, common_steps, v q (omega arith))
      | no s ↦
          let i = q - a in
          let n : length span ≡ to - y = rw w (length_tabulate g 0 _ ∙ long) in
          let u : get_or span i 0 ≡ g i = rw w (get_d_tabulate g 0 _ i (omega (arith, long)) ∙ ap g (zero-add i)) in
          let t : get_or (put_mid a e old span) q 0 ≡ get_or span i 0 = grind (arith, common_steps, n) in
          t ∙ u ∙ d i (omega arith) ∙ ap f (omega arith)
    ]

-- The least by the ways that are open to a span is that by all moves.
pub open_least : {ways : List Way} {layer : Layer} {p y end to : ℕ} (table : List ℕ) (x : ℕ) → x ≤ y → Open layer p layer.levels y end to ways
    → (q : ℕ) → q < to - y → settled (least_by table ways (length ways) q) ≡ settled (relaxed layer table p (x + (y - x + q)))
open_least {ways} {layer} {p} {y} table x h o q l =
    let e : y + q ≡ x + (y - x + q) = omega arith in
    rw (← e) (ap settled (o.exact table q l))

-- What a span rests on.
pub open_leads : {ways : List Way} {table : List ℕ} {layer : Layer} {p y end to n : ℕ} → layer.at + layer.levels * layer.cells ≤ length table → Lows layer y table
    → Open layer p layer.levels y end to ways → n ≡ to - y → Leads table n ways
open_leads {table = table} {layer} room v o s =
    record {
      few = omega (arith, layer.moving.most, o.few);
      room = λ k h. omega (arith, o.room k h);
      low = λ k q h g. o.low table v k q h (omega arith);
      short = o.short;
    }
