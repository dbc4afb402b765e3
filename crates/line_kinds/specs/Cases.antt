-- L lines at the end of the steady-state temperature's range (document 02, W2), with a resistance of 5,000. `proofs/Cases.antt` shows
-- that the definitions give each of them.
-- Assumes nothing.
use Rattle.std.specs.Prelude.{◌≡◌, Ok, Err}
use Rattle.text.specs.Bytes.{bytes_of}
use Rattle.fields.specs.declared.Fault.TheVariants.{Range}
use Rattle.line_kinds.specs.declared.Entry.TheVariants.{Level}
use Rattle.line_kinds.specs.Figures.{level_fields}

-- The rows.
pub record Cases : Type 0 where
  -- "The range test applies to the result, so 20,000.5 is now lawful"
  pub lawful : level_fields 5000 (bytes_of "L\t40001") ≡ Ok (Level 40001)
  -- by hand: 20,001 is not, nor is 20,001.5, which becomes 20,002
  pub warm : level_fields 5000 (bytes_of "L\t40002") ≡ Err (Range 2)
  pub half_warm : level_fields 5000 (bytes_of "L\t40003") ≡ Err (Range 2)
