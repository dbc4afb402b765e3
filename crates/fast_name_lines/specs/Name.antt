-- How long a line J may be that is taken in one pass over its bytes.
-- Assumes nothing.
use Rattle.std.specs.Prelude.{ℕ, ◌+◌}
use Rattle.name_lines.specs.Name.{name_max}

-- The longest line J: the letter, a byte 9, the name and the byte 10. The constant of the code has the same name.
abbrev pub name_line_max : ℕ
name_line_max = 2 + name_max + 1
