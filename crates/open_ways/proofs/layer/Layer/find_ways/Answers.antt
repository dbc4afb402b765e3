-- Level by level: a move that is lawful for word y adds its way and ends the span at its reach at the latest; any other adds nothing.
use mathlib.Core.Path.{◌≡◌, sym, ap, ◌∙◌}
use mathlib.Core.List.{[]}
use Prim.Native.Nat.{◌<◌}
use native.Mathlib.Omega.{arith}
use lib.ListN.{length, get_or, length-set, length-take}
use Rattle.std.proofs.lemmas.List.{get_or-take, take_more_set}
use Rattle.open_ways.specs.declared.Move.{Move}
use Rattle.open_ways.proofs.Opening.{open_none, open_more, open_less}
use Rattle.open_ways.proofs.layer.Layer.find_ways.Goals.{then-y-reach, else-y-reach}
use Rattle.open_ways.proofs.layer.Layer.find_ways.Goals as goal

pub loop-j-init : goal.loop-j-init
loop-j-init c = record { few = omega arith; ways = open_none _ _ _ _ c.requires.some }

pub loop-j-preserved : goal.loop-j-preserved
loop-j-preserved c =
    let l = c.loop-j in
    let o = l.invariant.ways in
    let levels = c.args.self.now.levels in
    let row = get_or c.args.self.now.moves.now c.args.p [] in
    let level : l.j < levels = omega (arith, length-take levels row, c.loop-j-test.true) in
    let same = get_or-take levels row l.j (record { shift = 0; reach = 0; time = 0 }) level in
    let reach = ap (λ (m : Move). m.reach) same in
    elim c.if-y-reach.branch [
      | then-y-reach w ↦
          let long : length l.ways ≡ 8 = sym (length-set _ _ _) ∙ ap length (sym w.ways-is) ∙ c.if-y-reach.array_long in
          let room : l.count < length l.ways = omega (arith, long, c.args.self.now.moving.most, level, l.invariant.few) in
          rw (w.ways-is, w.count-is, w.to-is, w.min-to.ensures)
          (record {
            few = omega (arith, l.invariant.few);
            ways = rw (← same, ← take_more_set l.ways l.count _ room) at (open_more _ _ _ _ c.requires.level l.j l.to _ o level (omega (arith, reach, w.if-y-reach.true)));
          })
      | else-y-reach w ↦
          rw (w.ways-is, w.count-is, w.to-is)
          (record { few = omega (arith, l.invariant.few); ways = open_less _ _ _ _ c.requires.level l.j l.to _ o level (omega (arith, reach, w.if-y-reach.false)) })
    ]
