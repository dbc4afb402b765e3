-- Where the reading of a block of lines stops: its line, and the field of its fault.
-- Assumes nothing.
use mathlib.Core.Path.{◌≡◌, refl, sym, ◌∙◌}
use mathlib.Core.List.{List}
use Prim.Native.Nat.{ℕ, zero, suc, ◌+◌, ◌≤◌}
use native.Mathlib.Omega.{arith}
use lib.Dec.{ltb}
use lib.ListN.{get_or}
use Rattle.std.specs.Prelude.{Ok, Err}
use Rattle.text.specs.Text.{until}
use Rattle.thermal.specs.Thermal.{steady_state}
use Rattle.fields.specs.Fields.{fields_of}
use Rattle.fields.proofs.Within.{cond_cases}
use Rattle.fields.proofs.After.{after_cases}
use Rattle.fields.proofs.Faults.{field_in, FieldLe, fields_field, after_field}
use Rattle.frame.specs.Sheet.{temperature_max}
use Rattle.store.specs.declared.Store.{Store}
use Rattle.line_kinds.specs.declared.Kind.{Kind}
use Rattle.line_kinds.specs.declared.Kind.TheVariants.{Level, Change, Work}
use Rattle.line_kinds.specs.Figures.{level_ranges, change_ranges, work_ranges, steady_fields, level_fields, change_fields, work_fields, fields_for, put}
use Rattle.reading.specs.declared.LineFault.{LineFault}
use Rattle.reading.specs.Rest.{Rest, next_by}
use Rattle.reading.proofs.Next.{line_read, line_fault}
use Rattle.lines.specs.Lines.{Found, stop, block_from}
use Rattle.lines.proofs.Rows.{block_in_row}

-- A line of a kind.
for_field : (kind : Kind) (j : ℕ) (line : List ℕ) → FieldLe (fields_for kind j line)
unfolding fields_for level_fields steady_fields change_fields work_fields
for_field (Level resistance) j line =
    after_field (fields_of 76 level_ranges line) _ (fields_field 76 level_ranges line (omega arith))
    (λ vs e. cond_cases FieldLe (ltb temperature_max (steady_state (get_or vs 0 0) resistance)) _ _ (λ c. omega arith) (λ c. tt))
for_field (Change p) j line = after_field (fields_of 83 (change_ranges p j) line) _ (fields_field 83 (change_ranges p j) line (omega arith)) (λ vs e. tt)
for_field Work j line = after_field (fields_of 66 work_ranges line) _ (fields_field 66 work_ranges line (omega arith)) (λ vs e. tt)

-- The reading stopped at line `most` at the latest, and a fault is of field 11 at the latest.
pub record Placed (most : ℕ) (f : Found) : Type 0 where
  pub line : (r : Rest) → f.read ≡ Ok r → r.line ≤ most
  pub fault : (e : LineFault) → f.read ≡ Err e → (e.line ≤ most) × (field_in e.fault ≤ 11)

module _ (most : ℕ) (st : Store) where
  -- It stopped behind sound lines.
  pub placed_end : (r : Rest) → r.line ≤ most → Placed most (record { read = Ok r; store = st })
  placed_end r h =
      record {
        line = λ q e. let p : r ≡ q = cc in rw (← p) h;
        fault = λ q e. absurd cc;
      }

  -- It stopped at a fault.
  pub placed_stop : (f : LineFault) → f.line ≤ most → field_in f.fault ≤ 11 → Placed most (stop st f)
  placed_stop f h k =
      record {
        line = λ q e. absurd cc;
        fault = λ q e. let p : f ≡ q = cc in rw (← p) (h, k);
      }

-- A block of n lines.
pub block_from_placed : (kind : Kind) (b n j : ℕ) (r : Rest) (st : Store) → Placed (r.line + n) (block_from kind b n j r st)
unfolding block_from
block_from_placed kind b zero j r st = placed_end _ st r (omega arith)
block_from_placed kind b (suc n) j r st =
    after_cases (Placed (r.line + suc n)) (next_by (fields_for kind j) r) _ _
    (λ f e. let p = line_fault (fields_for kind j) r f (for_field kind j (until 10 r.text)) e in placed_stop _ st f (omega (arith, p.line)) p.field)
    (λ line e.
    let next = block_from_placed kind b n (j + 1) line.1 (put (b + j) line.0 st) in
    let p = line_read (fields_for kind j) r line e in
    let q : line.1.line + n ≡ r.line + suc n = rw p.rest (omega arith) in
    rw q at next)

-- The same of a block by row: what is read is the same wherever it is put.
pub block_read : (kind : Kind) (i b n j : ℕ) (r : Rest) (p q : Store) → (block_in_row kind i n j r p).read ≡ (block_from kind b n j r q).read
unfolding block_in_row block_from
block_read kind i b zero j r p q = refl
block_read kind i b (suc n) j r p q =
    after_cases (λ (f : Found). f.read ≡ (block_from kind b (suc n) j r q).read) (next_by (fields_for kind j) r) _ _
    (λ f e. rw e refl)
    (λ line e. rw e (block_read kind i b n (j + 1) line.1 _ _))

pub block_placed : (kind : Kind) (i n j : ℕ) (r : Rest) (st : Store) → Placed (r.line + n) (block_in_row kind i n j r st)
block_placed kind i n j r st =
    let z = block_from_placed kind 0 n j r st in
    let same = sym (block_read kind i 0 n j r st st) in
    record { line = λ q e. z.line q (same ∙ e); fault = λ q e. z.fault q (same ∙ e) }
