-- The words that a sheet needs, asked for before a table is lent (document 01, 'The rounded run and the table').
-- Assumes nothing.
use Rattle.std.specs.Prelude.{List, ℕ, Result, Ok, Err}
use Rattle.frame.specs.Table.{need}
use Rattle.refusal.specs.declared.Refusal.{Refusal}
use Rattle.refusal.specs.Code.{accepted}
use Rattle.sheet.specs.Reading.{reading_of, sheet_in}

-- "The need is m × l × A × B words", of every sheet that 1 to 6 do not refuse, however many they are; a refused sheet has no need.
unfoldable pub words_of : List ℕ → Result ℕ Refusal
words_of t = accepted (reading_of t).refusal Err (Ok (need (sheet_in t)))
