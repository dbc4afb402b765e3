-- The sheet of what was read without a refusal (document 01, 'The sheet').
-- Assumes nothing.
use Rattle.frame.specs.Sheet.{Sheet}
use Rattle.store.specs.Figures.{sheet_of}
use Rattle.store.specs.declared.sheet.ReadSheet.{ReadSheet}

-- The sheet of its head and of the figures in its store.
abbrev pub sheet_read : ReadSheet → Sheet
sheet_read p = sheet_of p.head p.store.now
