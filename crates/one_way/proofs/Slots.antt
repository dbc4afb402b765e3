-- Which way stands in a place, what it rests on, and that fewer words rest on the same.
-- Assumes nothing.
use mathlib.Core.Path.{◌≡◌, sym, ap, ◌∙◌}
use mathlib.Core.List.{List}
use Prim.Native.Nat.{ℕ, ◌+◌, ◌≤◌, ◌<◌}
use native.Mathlib.Decide.{dec_lt}
use native.Mathlib.Omega.{arith}
use denote.Ref.{Bor}
use lib.ListN.{length, get_or}
use borrow.Author.Tests.{lt-ltb, le-ltb}
use Rattle.std.specs.declared.option.Option.{Option}
use Rattle.std.specs.declared.option.Option.TheVariants.{None, Some}
use Rattle.std.specs.Option.{MatchOption, unwrap_or}
use Rattle.std.specs.List.{HoldsAt}
use Rattle.store.specs.Store.{levels_max}
use Rattle.word.specs.Word.{far, job_most}
use Rattle.one_way.specs.declared.Way.{Way}
use Rattle.one_way.specs.Way.{way_at, by_way, slot_of, Leads, Opened}

pub slot_own : (count k : ℕ) → k < count → slot_of count k ≡ k
unfolding slot_of
slot_own count k h = simp (lt-ltb _ _ h)

pub slot_first : (count k : ℕ) → count ≤ k → slot_of count k ≡ 0
unfolding slot_of
slot_first count k h = simp (le-ltb _ _ h)

-- It is one of them.
pub slot_lt : (count k : ℕ) → 1 ≤ count → slot_of count k < count
slot_lt count k h =
    elim (dec_lt k count) [
      | yes l ↦ rw (slot_own count k l) l
      | no l ↦ rw (slot_first count k (omega arith)) h
    ]

-- The way that is read in place k, or else the first way.
pub read_way : (ways : List Way) (k : ℕ) (r : Option (Bor Way)) (first w : Bor Way) → MatchOption r (length ways ≤ k) (λ x. (k < length ways) × HoldsAt (λ y. x.now ≡ y) ways k) → first.now ≡ way_at ways 0 → w ≡ unwrap_or r first → w.now ≡ way_at ways (slot_of (length ways) k)
read_way ways k (Some x) first w h g e = ap (λ (b : Bor Way). b.now) e ∙ h.1 _ ∙ ap (way_at ways) (sym (slot_own (length ways) k h.0))
read_way ways k None first w h g e = ap (λ (b : Bor Way). b.now) e ∙ g ∙ ap (way_at ways) (sym (slot_first (length ways) k h))

-- Where the way in place k leads word q, and what it takes.
pub record Place (table : List ℕ) (ways : List Way) (w q : ℕ) : Type 0 where
  pub few : w < levels_max
  pub inside : w < length ways
  pub room : (way_at ways w).from + q < length table
  pub low : get_or table ((way_at ways w).from + q) 0 ≤ far
  pub short : (way_at ways w).time ≤ job_most

pub place : {table : List ℕ} {ways : List Way} {q : ℕ} → Opened table (q + 1) ways → (w k : ℕ) → w ≡ slot_of (length ways) k → Place table ways w q
place {ways = ways} {q} o w k e =
    let l : w < length ways = rw e (slot_lt (length ways) k o.some) in
    record { few = omega (arith, o.leads.few); inside = l; room = omega (arith, o.leads.room w l); low = o.leads.low w q l (omega arith); short = o.leads.short w l }

-- The word and the time together are the time by the way.
pub time_is : (table : List ℕ) (ways : List Way) (q w k : ℕ) → w ≡ k → get_or table ((way_at ways w).from + q) 0 + (way_at ways w).time ≡ by_way table ways k q
unfolding by_way
time_is table ways q w k e = rw e (omega arith)

pub leads_less : {table : List ℕ} {n : ℕ} {ways : List Way} → Leads table n ways → (m : ℕ) → m ≤ n → Leads table m ways
leads_less o m h =
    record {
      few = o.few;
      room = λ k l. omega (arith, o.room k l);
      low = λ k q l g. o.low k q l (omega arith);
      short = o.short;
    }
