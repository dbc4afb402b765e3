-- One level's words more with each turn of the loop, until those of all levels are written.
use mathlib.Core.Path.{◌≡◌, ap, ◌∙◌}
use mathlib.Core.List.{List, []}
use Prim.Native.Nat.{ℕ, ◌-◌}
use native.Mathlib.Omega.{arith}
use lib.ListN.{length, get_or, take}
use Rattle.std.proofs.lemmas.List.{get_or-take, length-take-le}
use Rattle.relax.proofs.Leveling.{levels_more}
use Rattle.relax.proofs.copy_part.Goals as goal

pub loop-p-preserved : goal.loop-p-preserved
loop-p-preserved c =
    let a = c.args in
    let levels = a.layer.now.levels in
    let p = c.loop-p.p in
    let row = get_or (take levels a.part.now) p [] in
    let long : length (take a.n row) ≡ a.n = omega arith in
    let few = length-take-le levels a.part.now (omega (arith, a.layer.now.moving.most)) in
    let same : row ≡ get_or a.part.now p [] = get_or-take levels a.part.now p [] (omega (arith, few)) in
    levels_more c.requires.words.within c.loop-p.invariant (rw long at c.copy.ensures)
    (λ y l h. get_or-take a.n row (y - a.x) 0 (omega arith) ∙ ap (λ (ws : List ℕ). get_or ws (y - a.x) 0) same)

pub returns : goal.returns
returns c =
    let m = length-take-le c.args.layer.now.levels c.args.part.now (omega (arith, c.args.layer.now.moving.most)) in
    let e : c.loop-p.p ≡ c.args.layer.now.levels = omega (arith, m, c.loop-p.auto.p-end, c.loop-p-test.false) in
    rw e at c.loop-p.invariant
