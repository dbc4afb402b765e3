-- Level by level: a move that is lawful for word y adds its way and ends the span at its reach at the latest; any other adds nothing.
use Prim.Native.Nat.{◌≤◌}
use lib.ListN.{take}
use Rattle.open_ways.specs.Layer.{Open}
use Rattle.open_ways.proofs.layer.Layer.find_ways.Given as goal

abbrev pub invariant-loop-j : goal.invariant-loop-j
invariant-loop-j l =
    record {
      few : l.count ≤ l.j;
      ways : Open l.self l.p l.j l.y l.end l.to (take l.count l.ways);
    }
