-- One word more with each turn of the loop: the next job's column stands behind what is written, and is as it was.
use mathlib.Core.Bool.{cond}
use mathlib.Core.Path.{◌≡◌}
use Prim.Native.Nat.{ℕ, ◌+◌, ◌*◌}
use lib.Dec.{ltb}
use lib.ListN.{get_or}
use Rattle.word.specs.Word.{far, near}
use Rattle.one_column.specs.Column.{Column}
use Rattle.one_column.proofs.lay_column.Given as goal

abbrev pub invariant-loop-a : goal.invariant-loop-a
invariant-loop-a l = record {
  place : l.k ≡ l._a * l.rows.width;
  column : Column l.initial.table l.table l.at l._a l.rows.width (λ (i : ℕ). cond (ltb l.q l.rows.width) (near (get_or l.initial.table (l.next + l.q + i * l.rows.width) 0)) far);
}
