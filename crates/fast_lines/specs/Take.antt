-- Which lines of a kind are taken in one pass over their bytes, and what they say.
-- Assumes nothing.
use Rattle.std.specs.Prelude.{List, ℕ, ◌+◌, ◌*◌, Option}
use Rattle.fast_fields.specs.Take.{line_taken}
use Rattle.line_kinds.specs.declared.Kind.{Kind}
use Rattle.line_kinds.specs.declared.Kind.TheVariants.{Level, Change, Work}
use Rattle.line_kinds.specs.declared.Entry.{Entry}
use Rattle.line_kinds.specs.Figures.{fields_for}

-- How many bytes the text must have where a line of n numbers is taken: the letter, the byte 9 behind it and, for each number, 8
-- digits and the byte behind them.
abbrev pub room_for : ℕ → ℕ
room_for n = 2 + n * 9

abbrev pub room_of : Kind → ℕ
room_of (Level resistance) = room_for 1
room_of (Change p) = room_for 2
room_of Work = room_for 3

-- What the next line of the text t says, as line j, from 0, of the lines of a kind, and how many bytes it has with its byte 10,
-- where it is taken; j counts for S lines alone.
unfoldable pub entry_taken : Kind → ℕ → List ℕ → Option (Entry × ℕ)
entry_taken kind j t = line_taken (room_of kind) (fields_for kind j) t
