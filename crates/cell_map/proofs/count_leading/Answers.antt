-- As the map rises, the cells that lead to a cell all stand before the others, and the search ends between them.
use mathlib.Core.List.{List}
use Prim.Native.Nat.{ℕ, ◌+◌, ◌≤◌}
use native.Mathlib.Nat.{zero-add}
use native.Mathlib.Omega.{arith}
use lib.Dec.{ltb}
use lib.ListN.{get_or}
use Rattle.std.proofs.Common.{rules, length}
use Rattle.std.proofs.lemmas.Bool.{ltb-true, ltb-false, lt-ltb}
use Rattle.std.proofs.lemmas.List.{get_or_default}
use Rattle.std.proofs.lemmas.List.Sorted.{IsPartitionPoint-from_clause}
use Rattle.std.specs.List.Sorted.{IsPartitionedBy}
use Rattle.cell_map.specs.Rows.{Rising}
use Rattle.cell_map.proofs.count_leading.Goals as goal

parted : (map : List ℕ) → Rising map 0 (length map) → IsPartitionedBy (λ q. ltb q (length map)) map
parted map r i j d l h e =
    let stays : length map ≤ get_or map i 0 → length map ≤ get_or map j 0 = rw (zero-add i, zero-add j) at (r.stays i j l h) in
    lt-ltb _ _ (grind (arith, stays, ltb-true _ _ e, get_or_default map i d 0 (omega arith), get_or_default map j d 0 h))

pub returns : goal.returns
returns c =
    let map = c.args.map.now in
    let point = IsPartitionPoint-from_clause (λ q. ltb q (length map)) map c.partition_point.result c.partition_point.ensures.partitioned (parted map c.requires) (λ a r q k. search rules) in
    record {
      most = c.partition_point.ensures.bound;
      within = λ k l. rw (zero-add k) (ltb-true _ _ (point.0 k 0 (omega arith) l));
      beyond = λ k h l. rw (zero-add k) (ltb-false _ _ (point.1 k 0 h l));
    }
