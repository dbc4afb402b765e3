-- Sheets as texts, and whether they are read or which refusal they get: document 01's own ('One sheet, whole'), and the end of the
-- steady-state temperature's range (document 02, W2). `proofs/Cases.antt` shows that the definitions give each of them.
-- Assumes nothing.
use Rattle.std.specs.Prelude.{◌≡◌, ℕ, None, IsSomeAnd}
use Prim.Native.String.{String, ◌++◌}
use Rattle.text.specs.Bytes.{bytes_of}
use Rattle.refusal.specs.declared.Refusal.{Refusal}
use Rattle.refusal.specs.Code.{number_of, line_of, field_of}
use Rattle.sheet.specs.Reading.{SheetRead, reading_of}

-- The sheet that document 01 prints, with a version, a start temperature, a resistance and the power of level 1.
abbrev pub printed : String → String → String → String → String
printed version start resistance power =
    "V\t" ++ version ++ "\nH\t2\t2\t0\t50\t100\t2500\t" ++ start ++ "\t" ++ resistance ++ "\t10\t100\nL\t10000\nL\t" ++ power
    ++ "\nS\t0\t0\nS\t2\t3\nS\t1\t3\nS\t0\t0\nJ\tlog\nB\t30\t20\t32768\nB\t18\t45\t32768\nJ\tsend\nB\t28\t25\t32768\nB\t15\t40\t32768\n"

-- A sheet is refused, with this number, line and field: "Every figure of a refused reply not named is 0."
abbrev pub Refused : String → ℕ → ℕ → ℕ → Type 0
Refused text number line field =
    let r : SheetRead = reading_of (bytes_of text) in
    IsSomeAnd r.refusal (λ (f : Refusal). (number_of f ≡ number) × (line_of f ≡ line) × (field_of f ≡ field)) ×
    (r.head ≡ record { version = 0; jobs = 0; levels = 0; start_level = 0; deadline = 0; energy_budget = 0; temperature_limit = 0; start_temperature = 0; resistance = 0; energy_step = 0; temperature_step = 0 })

-- A sheet is not refused.
abbrev pub Read : String → Type 0
Read text = (reading_of (bytes_of text)).refusal ≡ None

-- The rows.
pub record Cases : Type 0 where
  -- the sheet as printed
  pub whole : Read (printed "1" "1000" "2000" "20000")
  -- "Empty sheet: R 2 1 0. Version 9: R 4 1 2. Start 2501: R 5 2 8."
  pub empty : Refused "" 2 1 0
  pub version : Refused (printed "9" "1000" "2000" "20000") 4 1 2
  pub start : Refused (printed "1" "2501" "2000" "20000") 5 2 8
  -- W2: "The range test applies to the result, so 20,000.5 is now lawful"; by hand: 20,001.5 is not, as it becomes 20,002
  pub lawful : Read (printed "1" "1000" "5000" "40001")
  pub too_warm : Refused (printed "1" "1000" "5000" "40003") 4 4 2
