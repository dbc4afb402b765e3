-- The sheet of a problem that is handed over (document 01, 'The rounded run and the table').
-- Assumes nothing.
use Rattle.frame.specs.Sheet.{Sheet}
use Rattle.store.specs.Figures.{sheet_of}
use Rattle.table.specs.declared.problem.Problem.{Problem}

-- The sheet of its V and H lines and of the figures in its store.
abbrev pub sheet_for : Problem → Sheet
sheet_for p = sheet_of p.frame.head p.figures.store.now
