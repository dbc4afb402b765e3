-- One word more with each turn of the loop: the least by N places, sealed.
use mathlib.Core.List.{List}
use mathlib.Core.Path.{◌≡◌, ◌∙◌}
use Prim.Native.Nat.{ℕ, ◌+◌, ◌<◌}
use native.Mathlib.Decide.{dec_lt}
use lib.ListN.{length, get_or, set}
use lib.Seq.{get_or-set_same, get_or-set_other}
use native.Mathlib.Omega.{arith}
use Rattle.frame.proofs.Tabulate.{tabulated}
use Rattle.one_way.proofs.Slots.{leads_less}
use Rattle.least_way.proofs.Places.{settled_as}
use Rattle.ways.proofs.by.Goals as goal

pub least-requires : goal.least-requires
least-requires g c = let a = c.requires in record { ways = record { leads = leads_less a.ways.leads _ (omega (arith, c.loop-q-test.true)); some = a.ways.some }; some = a.some }

pub seal-requires : goal.seal-requires
seal-requires g c = c.least.ensures.small

one_more : (words : List ℕ) (n w : ℕ) (f : ℕ → ℕ) → n < length words → ((k : ℕ) → k < n → get_or words k 0 ≡ f k) → w ≡ f n → (k : ℕ) → k < n + 1 → get_or (set words n w) k 0 ≡ f k
one_more words n w f l h e k i =
    elim (dec_lt k n) [
      | yes z ↦ get_or-set_other words n k w 0 (λ y. absurd (omega arith)) ∙ h k z
      | no z ↦ let y : k ≡ n = omega arith in rw y (get_or-set_same words n w 0 l ∙ e)
    ]

pub loop-q-preserved : goal.loop-q-preserved
loop-q-preserved g c = one_more _ _ _ _ (omega (arith, c.loop-q-test.true, c.loop-q.auto.span)) c.loop-q.invariant (c.seal.ensures ∙ settled_as c.least.ensures)

pub returns : goal.returns
returns g c = tabulated _ _ _ (omega (arith, c.loop-q.auto.span)) (λ q l. c.loop-q.invariant q (omega arith))
