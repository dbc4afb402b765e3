-- The lines of plan text (document 01, 'The logger's call and `plan`'). "Lines end with byte 10; fields are parted by one byte
-- 9."
-- Assumes nothing.
use Rattle.std.specs.Prelude.{List, [], ◌∷◌, ◌++◌, ℕ, ◌+◌, ◌*◌}
use Rattle.name_lines.specs.Name.{name_max}
use Rattle.writer.specs.Decimal.{field, field_max}

-- Three fields and the byte 10, with which each of these lines ends.
unfoldable pub line_end : ℕ → ℕ → ℕ → List ℕ
line_end a b c = field a ++ field b ++ field c ++ (10 ∷ [])

-- "prints a P line (m, time, energy, final temperature)"; P is byte 80
unfoldable pub plan_line : ℕ → ℕ → ℕ → ℕ → List ℕ
plan_line m time energy temperature =
    (80 ∷ []) ++ field m ++ line_end time energy temperature

-- "and for each job a Q line (name, level, then time, energy and temperature after the job)"; Q is byte 81
unfoldable pub job_line : List ℕ → ℕ → ℕ → ℕ → ℕ → List ℕ
job_line name level time energy temperature =
    (81 ∷ 9 ∷ []) ++ name ++ field level ++ line_end time energy temperature

-- "or one R line (refusal, line, field)"; R is byte 82
unfoldable pub refusal_line : ℕ → ℕ → ℕ → List ℕ
refusal_line number line place = (82 ∷ []) ++ line_end number line place

-- The most bytes of a line's end, of a P line, of a Q line and of an R line.
abbrev pub line_end_max : ℕ
line_end_max = 3 * field_max + 1

abbrev pub plan_line_max : ℕ
plan_line_max = 1 + field_max + line_end_max

abbrev pub job_line_max : ℕ
job_line_max = 2 + name_max + field_max + line_end_max

abbrev pub refusal_line_max : ℕ
refusal_line_max = 1 + line_end_max
