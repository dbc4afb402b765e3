-- Laws of lines by their kind: what each test of the reader says, and that the store has as many places for what they say as for them.
-- Assumes nothing.
use mathlib.Core.Path.{◌≡◌, refl}
use mathlib.Core.List.{List, [], ◌∷◌}
use Prim.Native.Nat.{ℕ, ◌≤◌, ◌<◌}
use native.Mathlib.Omega.{arith}
use lib.Dec.{ltb}
use lib.ListN.{get_or}
use borrow.Author.Tests.{lt-ltb, le-ltb}
use Rattle.std.specs.Prelude.{Ok, Err}
use Rattle.thermal.specs.Thermal.{steady_state}
use Rattle.fields.specs.Fields.{fields_of}
use Rattle.fields.specs.declared.Fault.{Fault}
use Rattle.fields.specs.declared.Fault.TheVariants.{Range as OutOfRange}
use Rattle.fields.specs.declared.Range.{Range}
use Rattle.fields.proofs.After.{after_ok, cond_fault}
use Rattle.line_kinds.specs.declared.Kind.{Kind}
use Rattle.line_kinds.specs.declared.Kind.TheVariants.{Level, Change, Work}
use Rattle.line_kinds.specs.declared.Entry.{Entry}
use Rattle.line_kinds.specs.declared.Entry.TheVariants.{Level as LevelEntry}
use Rattle.frame.specs.Sheet.{temperature_max}
use Rattle.line_kinds.specs.Figures.{cost_range, level_ranges, change_ranges, work_ranges, steady_fields, level_fields, change_entry, work_entry, change_fields, work_fields, fields_for, works_max, places_of, places_for}

module _ (resistance power : ℕ) where
  pub level_hot : temperature_max < steady_state power resistance → Err (OutOfRange 2) ≡ steady_fields resistance power
  unfolding steady_fields
  level_hot h = rw (lt-ltb temperature_max (steady_state power resistance) h) refl

  pub level_sound : steady_state power resistance ≤ temperature_max → Ok (LevelEntry power) ≡ steady_fields resistance power
  unfolding steady_fields
  level_sound h = rw (le-ltb temperature_max (steady_state power resistance) h) refl

module _ (kind : Kind) (j : ℕ) (line : List ℕ) where
  module _ (resistance : ℕ) (k : kind ≡ Level resistance) where
    pub for_level : (vs : List ℕ) → fields_of 76 level_ranges line ≡ Ok vs → steady_fields resistance (get_or vs 0 0) ≡ fields_for kind j line
    unfolding fields_for level_fields
    for_level vs e = rw (k, e) refl

    pub for_level_fault : (f : Fault) → fields_of 76 level_ranges line ≡ Err f → Err f ≡ fields_for kind j line
    unfolding fields_for level_fields
    for_level_fault f e = rw (k, e) refl

  module _ (p : ℕ) (k : kind ≡ Change p) (range : Range) (r : range ≡ cost_range p j) where
    pub for_change : (vs : List ℕ) → fields_of 83 (range ∷ range ∷ []) line ≡ Ok vs → Ok (change_entry vs) ≡ fields_for kind j line
    unfolding fields_for change_fields
    for_change vs e = rw (k, ← r, e) refl

    pub for_change_fault : (f : Fault) → fields_of 83 (range ∷ range ∷ []) line ≡ Err f → Err f ≡ fields_for kind j line
    unfolding fields_for change_fields
    for_change_fault f e = rw (k, ← r, e) refl

  module _ (k : kind ≡ Work) where
    pub for_work : (vs : List ℕ) → fields_of 66 work_ranges line ≡ Ok vs → Ok (work_entry vs) ≡ fields_for kind j line
    unfolding fields_for work_fields
    for_work vs e = rw (k, e) refl

    pub for_work_fault : (f : Fault) → fields_of 66 work_ranges line ≡ Err f → Err f ≡ fields_for kind j line
    unfolding fields_for work_fields
    for_work_fault f e = rw (k, e) refl

-- The store has as many places for what a line says as for the lines of its kind.
pub entry_places : (kind : Kind) (j : ℕ) (line : List ℕ) (entry : Entry) → fields_for kind j line ≡ Ok entry → places_for entry ≡ places_of kind
unfolding fields_for level_fields steady_fields change_fields work_fields
entry_places (Level resistance) j line entry e =
    let a = after_ok (fields_of 76 level_ranges line) _ entry e in
    let b = cond_fault (ltb temperature_max (steady_state (get_or a.0 0 0) resistance)) (Ok (LevelEntry (get_or a.0 0 0))) (OutOfRange 2) entry a.2 in
    let q : entry ≡ LevelEntry (get_or a.0 0 0) = cc in
    rw q refl
entry_places (Change p) j line entry e =
    let a = after_ok (fields_of 83 (change_ranges p j) line) _ entry e in
    let q : entry ≡ change_entry a.0 = cc in
    rw q refl
entry_places Work j line entry e =
    let a = after_ok (fields_of 66 work_ranges line) _ entry e in
    let q : entry ≡ work_entry a.0 = cc in
    rw q refl

-- No kind has more of them than B lines.
pub places_most : (kind : Kind) → places_of kind ≤ works_max
places_most (Level resistance) = omega arith
places_most (Change p) = omega arith
places_most Work = omega arith
