-- `name_on` hands back the bytes of the next line behind its first byte 9, by the contract of `find`.
use native.Mathlib.Omega.{arith}
use lib.ListN.{length-take}
use Rattle.text.specs.Text.{until}
use Rattle.text.proofs.Text.{before_le}
use Rattle.name_places.proofs.Place.{behind_first}
use Rattle.name_places.proofs.name_on.Goals as goal

pub slice_bounds-line-end : goal.slice_bounds-line-end
slice_bounds-line-end c = let h = before_le 10 c.args.t.now in simp length-take (omega (arith, c.find.ensures))

pub returns : goal.returns
unfolding until
returns c = rw (c.behind.ensures, c.find-2.ensures, c.find.ensures) (behind_first 9 _)
