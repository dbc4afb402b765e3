-- A line of numbers, by its kind, and where its figures go (document 01, 'The sheet'): "L, power P", "S, time, energy of a change",
-- "B, time .., energy .., decay ..".
-- Assumes nothing.
use Rattle.std.specs.Prelude.{cond, List, [], ◌∷◌, ℕ, ◌*◌, ◌/◌, ◌%◌, eqb, ltb, get_or, set, Result, Ok, Err}
use Rattle.frame.specs.Sheet.{temperature_max, power_max, cost_max, decay_max}
use Rattle.store.specs.Store.{jobs_max, levels_max}
use Rattle.store.specs.declared.Store.{Store}
use Rattle.thermal.specs.Thermal.{steady_state}
use Rattle.fields.specs.Fields.{from_to, fields_of, after}
use Rattle.fields.specs.declared.Fault.{Fault}
use Rattle.fields.specs.declared.Fault.TheVariants.{Range as OutOfRange}
use Rattle.fields.specs.declared.Range.{Range}
use Rattle.line_kinds.specs.declared.Kind.{Kind}
use Rattle.line_kinds.specs.declared.Kind.TheVariants.{Level, Change, Work}
use Rattle.line_kinds.specs.declared.Entry.{Entry}
use Rattle.line_kinds.specs.declared.Entry.TheVariants.{Level as LevelEntry, Change as ChangeEntry, Work as WorkEntry}

-- The range of both numbers of an S line, of the change from level p to level j: "From a level to itself both must be 0".
abbrev pub cost_range : ℕ → ℕ → Range
cost_range p j = cond (eqb j p) (from_to 0 0) (from_to 0 cost_max)

-- The ranges of the numbers of an L line, of an S line and of a B line.
abbrev pub level_ranges : List Range
level_ranges = from_to 0 power_max ∷ []

abbrev pub change_ranges : ℕ → ℕ → List Range
change_ranges p j = cost_range p j ∷ cost_range p j ∷ []

abbrev pub work_ranges : List Range
work_ranges = from_to 1 cost_max ∷ from_to 0 cost_max ∷ from_to 0 decay_max ∷ []

-- The steady-state temperature "must be at most 20,000; else the fault is a range fault of this field".
unfoldable pub steady_fields : ℕ → ℕ → Result Entry Fault
steady_fields resistance power = cond (ltb temperature_max (steady_state power resistance)) (Err (OutOfRange 2)) (Ok (LevelEntry power))

-- "L, power P (0 to 100,000)"; L is byte 76
unfoldable pub level_fields : ℕ → List ℕ → Result Entry Fault
level_fields resistance line = after (fields_of 76 level_ranges line) Err (λ vs. steady_fields resistance (get_or vs 0 0))

-- What the numbers of an S line and of a B line say.
abbrev pub change_entry : List ℕ → Entry
change_entry vs = ChangeEntry (record { time = get_or vs 0 0; energy = get_or vs 1 0 })

abbrev pub work_entry : List ℕ → Entry
work_entry vs = WorkEntry (record { time = get_or vs 0 0; energy = get_or vs 1 0; decay = get_or vs 2 0 })

-- "S, time, energy of a change (each 0 to 10,000,000)"; S is byte 83
unfoldable pub change_fields : ℕ → ℕ → List ℕ → Result Entry Fault
change_fields p j line = after (fields_of 83 (change_ranges p j) line) Err (λ vs. Ok (change_entry vs))

-- "B, time (1 to 10,000,000), energy (0 to 10,000,000), decay (0 to 65,536)"; B is byte 66
unfoldable pub work_fields : List ℕ → Result Entry Fault
work_fields line = after (fields_of 66 work_ranges line) Err (λ vs. Ok (work_entry vs))

-- Line j, from 0, of the lines of a kind.
unfoldable pub fields_for : Kind → ℕ → List ℕ → Result Entry Fault
fields_for (Level resistance) j line = level_fields resistance line
fields_for (Change p) j line = change_fields p j line
fields_for Work j line = work_fields line

-- Rows of figures, one for each level in a row, with figure k of them all put.
abbrev pub put_in_rows : {A : Type 0} → ℕ → A → List (List A) → List (List A)
put_in_rows k x rows = let i = k / levels_max in set rows i (set (get_or rows i []) (k % levels_max) x)

-- The store with what a line says put in place k of its kind, in the order of the lines: L lines by level; S lines "by level left and
-- then level entered"; B lines "For each job .. then l lines B", with a place for each level that a sheet can have.
unfoldable pub put : ℕ → Entry → Store → Store
put k (LevelEntry power) st = record { powers = set st.powers k power; changes = st.changes; works = st.works }
put k (ChangeEntry change) st = record { powers = st.powers; changes = put_in_rows k change st.changes; works = st.works }
put k (WorkEntry work) st = record { powers = st.powers; changes = st.changes; works = put_in_rows k work st.works }

-- How many places the store has for a change, and for a job at a level.
abbrev pub changes_max : ℕ
changes_max = levels_max * levels_max

abbrev pub works_max : ℕ
works_max = jobs_max * levels_max

-- How many it has for the lines of a kind.
abbrev pub places_of : Kind → ℕ
places_of (Level resistance) = levels_max
places_of (Change p) = changes_max
places_of Work = works_max

-- The same for what a line says.
abbrev pub places_for : Entry → ℕ
places_for (LevelEntry power) = levels_max
places_for (ChangeEntry change) = changes_max
places_for (WorkEntry work) = works_max
