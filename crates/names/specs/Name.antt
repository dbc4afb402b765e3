-- Job names (document 01, 'The sheet'): "A job's name is handed back as that part of the sheet itself, never as a copy; a sheet
-- refused by 1 to 6, or a job number outside 0 to m − 1, gives an empty part."
-- Assumes nothing.
use Rattle.std.specs.Prelude.{cond, List, [], ℕ, leb}
use Rattle.name_places.specs.Place.{skip, next_name}
use Rattle.store.specs.declared.Head.{Head}
use Rattle.body.specs.Body.{lines_before}
use Rattle.sheet.specs.Reading.{reading_of}

-- The name on the J line that follows the first n lines.
unfoldable pub name_at : ℕ → List ℕ → List ℕ
name_at n t = next_name (skip n t)

-- The name of job i, from 0. A refused sheet has no jobs.
unfoldable pub name_of : List ℕ → ℕ → List ℕ
name_of t i =
    let h : Head = (reading_of t).head in
    cond (leb h.jobs i) [] (name_at (lines_before h.levels i) t)
