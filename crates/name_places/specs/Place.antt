-- Where a job's name is on a sheet (document 01, 'The sheet'): "Lines end with byte 10".
-- Assumes nothing.
use Rattle.std.specs.Prelude.{List, ℕ, zero, suc}
use Rattle.text.specs.Text.{until, beyond}
use Rattle.name_lines.specs.Name.{name_on}

-- The text after its first n lines.
unfoldable pub skip : ℕ → List ℕ → List ℕ
skip zero t = t
skip (suc n) t = skip n (beyond 10 t)

-- The name on the next line of the text t, where that is a J line.
abbrev pub next_name : List ℕ → List ℕ
next_name t = name_on (until 10 t)
