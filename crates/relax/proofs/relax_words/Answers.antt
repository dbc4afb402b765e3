-- A part of every level more with each turn of the loop: what is still to be read stands behind what is written, and is as it was.
use mathlib.Core.Path.{◌≡◌, refl}
use Prim.Native.Nat.{◌+◌}
use native.Mathlib.Omega.{arith}
use Rattle.relax.proofs.Leveling.{levels_on}
use Rattle.relax.proofs.relax_words.Goals as goal

pub loop-x-preserved : goal.loop-x-preserved
loop-x-preserved c =
    let e : c.loop-x.x + c.min-n.result ≡ c.loop-x.x + 384 = omega (arith, c.min-n.ensures) in
    record { most = omega arith; words = rw e at (levels_on c.args.layer.now c.loop-x.invariant.words _ _ _ (omega arith) (λ p y. refl) c.relax_part.ensures c.copy_part.ensures) }

pub returns-2 : goal.returns-2
returns-2 c =
    let e : c.loop-x.x + c.min-n.result ≡ c.args.layer.now.cells = omega (arith, c.min-n.ensures) in
    rw e at (levels_on c.args.layer.now c.loop-x.invariant.words _ _ _ (omega arith) (λ p y. refl) c.relax_part.ensures c.copy_part.ensures)
