-- A block by row: L lines go to the one row of levels, S lines to that of the level that they leave, B lines to that of their job, however
-- many they are. (No block of a sheet has more lines than a row has places; so the blocks of the code are such ones, by `block_from_row` of
-- `Kept`.)
-- Assumes nothing.
use mathlib.Core.List.{[]}
use Prim.Native.Nat.{ℕ, zero, suc, ◌+◌, ◌*◌}
use lib.ListN.{get_or, set}
use Rattle.std.specs.Prelude.{Ok}
use Rattle.store.specs.Store.{levels_max}
use Rattle.store.specs.declared.Store.{Store}
use Rattle.fields.specs.Fields.{after}
use Rattle.line_kinds.specs.declared.Kind.{Kind}
use Rattle.line_kinds.specs.declared.Kind.TheVariants.{Level as LevelKind, Change as ChangeKind, Work as WorkKind}
use Rattle.line_kinds.specs.declared.Entry.{Entry}
use Rattle.line_kinds.specs.declared.Entry.TheVariants.{Level as LevelEntry, Change as ChangeEntry, Work as WorkEntry}
use Rattle.line_kinds.specs.Figures.{fields_for}
use Rattle.reading.specs.Rest.{Rest, next_by}
use Rattle.lines.specs.Lines.{Found, stop}

-- The row of a kind's lines (document 01, 'The sheet'): L lines have one; S lines, "by level left and then level entered", that of the level
-- left; B lines, "For each job", that of job i. For the others i counts nothing.
abbrev pub row_of : Kind → ℕ → ℕ
row_of (LevelKind resistance) i = 0
row_of (ChangeKind p) i = p
row_of WorkKind i = i

-- The first place of that row, of all places of the kind.
abbrev pub first_of : Kind → ℕ → ℕ
first_of (LevelKind resistance) i = 0
first_of (ChangeKind p) i = p * levels_max
first_of WorkKind i = i * levels_max

-- The store with what a line says put in place j of row i, of the one row for an L line; nowhere, where there is no such place.
unfoldable pub put_at : ℕ → ℕ → Entry → Store → Store
put_at i j (LevelEntry power) st = record { powers = set st.powers j power; changes = st.changes; works = st.works }
put_at i j (ChangeEntry change) st =
    record { powers = st.powers; changes = set st.changes i (set (get_or st.changes i []) j change); works = st.works }
put_at i j (WorkEntry work) st =
    record { powers = st.powers; changes = st.changes; works = set st.works i (set (get_or st.works i []) j work) }

-- The next n lines of a kind, from its line j on, B lines those of job i; line j goes to place j of its row.
unfoldable pub block_in_row : Kind → ℕ → ℕ → ℕ → Rest → Store → Found
block_in_row kind i zero j r st = record { read = Ok r; store = st }
block_in_row kind i (suc n) j r st =
    after (next_by (fields_for kind j) r) (stop st) (λ line. block_in_row kind i n (j + 1) line.1 (put_at (row_of kind i) j line.0 st))
