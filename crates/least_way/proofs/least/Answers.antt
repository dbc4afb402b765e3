-- One place more with each turn of the loop, until all N are there.
use native.Mathlib.Nat.{le_antisymm}
use Rattle.least_way.proofs.Places.{one_place, place_more}
use Rattle.least_way.proofs.least.Goals as goal

pub loop-k-init : goal.loop-k-init
loop-k-init g c = one_place _ _ _ _ c.time_by-best.ensures.0 c.time_by-best.ensures.1

pub lesser-best-requires : goal.lesser-best-requires
lesser-best-requires g c = (c.loop-k.invariant.small, c.time_by.ensures.1)

pub loop-k-preserved : goal.loop-k-preserved
loop-k-preserved g c = place_more _ _ _ _ _ c.loop-k.invariant c.time_by.ensures.0 c.lesser-best.ensures

pub returns : goal.returns
returns g c = rw (le_antisymm (c.loop-k.auto.k-end c.requires.some) c.loop-k-test.false) at c.loop-k.invariant
