-- As many places as the test says hold every way, so that the least by them is that by all ways.
use mathlib.Core.List.{List}
use mathlib.Core.Path.{◌≡◌, sym, ap, ◌∙◌}
use Prim.Native.Nat.{ℕ, ◌≤◌}
use native.Mathlib.Nat.{zero-add}
use native.Mathlib.Omega.{arith}
use lib.ListN.{length, replicate}
use Rattle.std.proofs.lemmas.List.{get_or-replicate, length-replicate}
use Rattle.frame.specs.Table.{tabulate}
use Rattle.frame.proofs.Tabulate.{length_tabulate, get_d_tabulate, tabulated}
use Rattle.word.specs.Word.{no_way, settled}
use Rattle.one_way.specs.declared.Way.{Way}
use Rattle.least_way.specs.Least.{least_by, least_in}
use Rattle.least_way.proofs.Places.{none_open, all_ways}
use Rattle.ways.proofs.take_span.Goals as goal

module _ (table : List ℕ) (ways : List Way) where
  abbrev by_all : ℕ → ℕ
  by_all q = settled (least_by table ways (length ways) q)

  module _ {span : List ℕ} (n : ℕ) where
    by_places : (N : ℕ) → 1 ≤ length ways → length ways ≤ N → span ≡ tabulate (λ (q : ℕ). settled (least_in table ways N q)) 0 n → span ≡ tabulate by_all 0 n
    by_places N s l e =
        rw e
        (tabulated by_all n _ (length_tabulate _ 0 n)
        (λ q h. get_d_tabulate _ 0 n q h ∙ rw (zero-add q) (ap settled (all_ways table ways q N s l))))

    -- The least by no way.
    by_none : length ways ≡ 0 → span ≡ replicate n no_way → span ≡ tabulate by_all 0 n
    by_none z e = tabulated by_all n span (rw e (length-replicate n no_way)) (λ q h. rw (e, z) (get_or-replicate n q no_way 0 h ∙ sym (none_open table ways q)))

pub returns-in-0 : goal.returns-in-0
returns-in-0 c = by_none _ _ _ c.in-0.is (c.fill.ensures.after (λ y e. e))

pub returns-in-1-to-2 : goal.returns-in-1-to-2
returns-in-1-to-2 c = by_places _ _ _ 2 (omega arith) (omega arith) c.by.ensures

pub returns-in-3-to-4 : goal.returns-in-3-to-4
returns-in-3-to-4 c = by_places _ _ _ 4 (omega arith) (omega arith) c.by-in-3-to-4.ensures

pub returns-in-5-to-6 : goal.returns-in-5-to-6
returns-in-5-to-6 c = by_places _ _ _ 6 (omega arith) (omega arith) c.by-in-5-to-6.ensures

pub returns-in_default : goal.returns-in_default
returns-in_default c = by_places _ _ _ 8 (omega arith) c.requires.few c.by-in_default.ensures
