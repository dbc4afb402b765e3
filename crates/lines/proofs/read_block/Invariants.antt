-- `read_block` reads what the definition says: behind each line, the lines that are left are those that the definition reads next.
use mathlib.Core.Path.{◌≡◌}
use Prim.Native.Nat.{◌-◌}
use Rattle.reading.specs.Rest.{rest_of}
use Rattle.lines.specs.Lines.{block_from}
use Rattle.lines.proofs.read_block.Given as goal

abbrev pub invariant-loop-j : goal.invariant-loop-j
invariant-loop-j l =
    block_from l.kind l.base l.n 0 (rest_of l.start) l.fn.store
    ≡ block_from l.kind l.base (l.n - l.j-counter) l.j-counter (rest_of l.place) l.store
