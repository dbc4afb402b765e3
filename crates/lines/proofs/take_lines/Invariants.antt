-- `take_lines` takes what the definition takes: behind each line, the lines that are left are those that the definition takes next.
use mathlib.Core.Path.{◌≡◌}
use Prim.Native.Nat.{◌-◌}
use Rattle.reading.specs.Rest.{rest_of}
use Rattle.lines.specs.Lines.{taken_from}
use Rattle.lines.proofs.take_lines.Given as goal

abbrev pub invariant-loop-j : goal.invariant-loop-j
invariant-loop-j l =
    taken_from l.kind l.base l.n 0 (rest_of l.start) l.fn.store ≡ taken_from l.kind l.base (l.n - l.j) l.j (rest_of l.place) l.store
