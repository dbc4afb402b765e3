-- The ways that are open to a span of words: by no level yet, by one level more.
-- Assumes nothing.
use mathlib.Core.Path.{◌≡◌, refl, sym, ap₂, ◌∙◌}
use mathlib.Core.List.{List, [], ◌∷◌, ◌++◌}
use Prim.Native.Nat.{ℕ, zero, suc, ◌+◌, ◌*◌, ◌-◌, ◌≤◌, ◌<◌, min}
use native.Mathlib.Numerals.{add-one}
use native.Mathlib.Decide.{dec_lt}
use native.Mathlib.Omega.{arith}
use Rattle.std.proofs.lemmas.Nat.{row_fits}
use Rattle.std.proofs.lemmas.List.{length_push}
use lib.ListN.{length, get_or, get_or-append}
use lib.Seq.{get_or-append_seam}
use Rattle.word.specs.Word.{far, job_most}
use Rattle.one_way.specs.declared.Way.{Way}
use Rattle.one_way.specs.Way.{way_at, by_way}
use Rattle.least_way.specs.Least.{least_by}
use Rattle.open_ways.specs.declared.Move.{Move}
use Rattle.open_ways.specs.declared.layer.Layer.{Layer}
use Rattle.open_ways.specs.Moves.{move_at, relaxed_at}
use Rattle.open_ways.specs.Layer.{Lows, relaxed_by, Open}
use Rattle.open_ways.proofs.Moves.{relaxed_on, relaxed_off}

-- ---- a way more in the list

module _ (ways : List Way) (v : Way) where
  abbrev more : List Way
  more = ways ++ v ∷ []

  -- The ways before it are as they were.
  way_before : (w : ℕ) → w < length ways → way_at more w ≡ way_at ways w
  way_before w h = get_or-append ways (v ∷ []) _ w h

  way_last : way_at more (length ways) ≡ v
  way_last = get_or-append_seam ways v [] _

  module _ (t : List ℕ) (q : ℕ) where
    least_before : (k : ℕ) → k ≤ length ways → least_by t more k q ≡ least_by t ways k q
    unfolding least_by by_way
    least_before zero h = refl
    least_before (suc k) h = ap₂ (λ (a b : ℕ). min a b) (least_before k (omega arith)) (rw (way_before k (omega arith)) refl)

    least_more : least_by t more (length more) q ≡ min (least_by t ways (length ways) q) (v.time + get_or t (v.from + q) 0)
    unfolding least_by by_way
    least_more =
        let n : length more ≡ suc (length ways) = omega (arith, length_push ways v) in
        rw n (ap₂ (λ (a b : ℕ). min a b) (least_before (length ways) (omega arith)) (rw way_last refl))

-- ---- by one level more

module _ (layer : Layer) (p y end : ℕ) where
  abbrev Opened : ℕ → ℕ → List Way → Type 0
  Opened k to ways = Open layer p k y end to ways

  pub open_none : y < end → Opened 0 end []
  unfolding relaxed_at least_by
  open_none h =
      record {
        some = h;
        within = omega arith;
        few = omega arith;
        room = λ w l. absurd (omega arith);
        low = λ t v w q l. absurd (omega arith);
        short = λ w l. absurd (omega arith);
        exact = λ t q l. refl;
      }

  module _ (hp : p < layer.levels) (k to : ℕ) (ways : List Way) (o : Opened k to ways) (hk : k < layer.levels) where
    abbrev m : Move
    m = move_at layer.moves.now p k

    -- A level whose move is lawful for none of the words.
    pub open_less : m.reach ≤ y → Opened (k + 1) to ways
    open_less h =
        rw (add-one k)
        record {
          some = o.some;
          within = o.within;
          few = omega (arith, o.few);
          room = o.room;
          low = o.low;
          short = o.short;
          exact = λ t q l. o.exact t q l ∙ sym (relaxed_off layer.moves.now t layer.cells layer.at p k (y + q) (omega arith));
        }

    -- A level whose move is lawful for all words up to its reach.
    module _ (h : y < m.reach) where
      abbrev way : Way
      way = record { from = layer.at + k * layer.cells + (y + m.shift); time = m.time }

      abbrev upto : ℕ
      upto = min to m.reach

      -- The way leads to words of its level.
      inner : (y + (upto - y) + m.shift ≤ layer.cells) × (k * layer.cells + layer.cells ≤ layer.levels * layer.cells)
      inner = (omega (arith, layer.moving.within p k hp hk, o.some), row_fits k layer.cells layer.levels layer.cells hk (omega arith))

      long : length (more ways way) ≡ suc (length ways)
      long = omega (arith, length_push ways way)

      room : (w : ℕ) → w < length (more ways way) → (way_at (more ways way) w).from + (upto - y) ≤ layer.at + layer.levels * layer.cells
      room w l =
          elim (dec_lt w (length ways)) [
            | yes z ↦ rw (way_before ways way w z) (omega (arith, o.room w z))
            | no z ↦ let e : w ≡ length ways = omega (arith, long) in rw (e, way_last ways way) (omega (arith, inner))
          ]

      low : (t : List ℕ) → Lows layer y t → (w q : ℕ) → w < length (more ways way) → q < upto - y → get_or t ((way_at (more ways way) w).from + q) 0 ≤ far
      low t v w q l g =
          elim (dec_lt w (length ways)) [
            | yes z ↦ rw (way_before ways way w z) (o.low t v w q z (omega arith))
            | no z ↦
                let e : w ≡ length ways = omega (arith, long) in
                let s : way.from + q ≡ layer.at + k * layer.cells + (y + m.shift + q) = omega arith in
                rw (e, way_last ways way, s) (v.low k (y + m.shift + q) hk (omega arith) (omega (arith, inner)))
          ]

      short : (w : ℕ) → w < length (more ways way) → (way_at (more ways way) w).time ≤ job_most
      short w l =
          elim (dec_lt w (length ways)) [
            | yes z ↦ rw (way_before ways way w z) (o.short w z)
            | no z ↦ let e : w ≡ length ways = omega (arith, long) in rw (e, way_last ways way) (layer.moving.short p k hp hk)
          ]

      exact : (t : List ℕ) (q : ℕ) → q < upto - y → least_by t (more ways way) (length (more ways way)) q ≡ relaxed_by layer t p (suc k) (y + q)
      exact t q l =
          let s : way.from + q ≡ layer.at + k * layer.cells + (y + q + m.shift) = omega arith in
          least_more ways way t q
          ∙ ap₂ (λ (a b : ℕ). min a (m.time + get_or t b 0)) (o.exact t q (omega arith)) s
          ∙ sym (relaxed_on layer.moves.now t layer.cells layer.at p k (y + q) (omega arith))

      pub open_more : Opened (k + 1) upto (more ways way)
      open_more =
          rw (add-one k)
          record { some = omega (arith, o.some); within = omega (arith, o.within); few = omega (arith, o.few, long); room = room; low = low; short = short; exact = exact }
