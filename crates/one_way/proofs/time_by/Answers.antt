-- The word that the way leads to and the way's time are read, and their sum is what the definition says: the place is one of the
-- ways', so that both are there and small.
use mathlib.Core.Path.{◌≡◌, refl}
use Prim.Native.Nat.{ℕ}
use native.Mathlib.Omega.{arith}
use borrow.Author.Rules.{rules}
use lib.ListN.{length}
use Rattle.one_way.specs.Way.{way_at, slot_of}
use Rattle.one_way.proofs.Slots.{place, time_is, read_way}
use Rattle.one_way.proofs.time_by.Goals as goal

pub returns : goal.returns
returns c =
    let ways = c.args.ways.now in
    let w : ℕ = slot_of (length ways) c.args.k in
    let e : c.unwrap_or-way.result.now ≡ way_at ways w = read_way ways c.args.k c.get.result _ _ (search rules) refl c.unwrap_or-way.ensures in
    let p = place c.requires w c.args.k refl in
    rw e (time_is _ _ _ _ _ refl, omega (arith, p.low, p.short))
