-- Blocks of lines of numbers (document 01, 'The sheet'): "l lines L", "l × l lines S", "l lines B", and the figures that they leave in
-- the store.
-- Assumes nothing.
use Rattle.std.specs.Prelude.{ℕ, zero, suc, ◌+◌, drop, Result, Ok, Err}
use Rattle.std.specs.Option.{option_map_or}
use Rattle.fields.specs.Fields.{after}
use Rattle.reading.specs.declared.LineFault.{LineFault}
use Rattle.reading.specs.declared.place.Place.{Place}
use Rattle.reading.specs.Rest.{Rest, rest_of, rest_read, next_by}
use Rattle.store.specs.declared.Store.{Store}
use Rattle.line_kinds.specs.declared.Kind.{Kind}
use Rattle.line_kinds.specs.Figures.{fields_for, put}
use Rattle.fast_lines.specs.Take.{entry_taken}

-- Lines read: the first fault, or what is left of the text, and the store.
pub record Found : Type 0 where
  pub read : Result Rest LineFault
  pub store : Store

-- The reading stops at a fault, and the store stays as it is.
abbrev pub stop : Store → LineFault → Found
stop st f = record { read = Err f; store = st }

-- The next n lines of a kind, from its line j on; their figures go to the places from b + j on.
unfoldable pub block_from : Kind → ℕ → ℕ → ℕ → Rest → Store → Found
block_from kind b zero j r st = record { read = Ok r; store = st }
block_from kind b (suc n) j r st =
    after (next_by (fields_for kind j) r) (stop st) (λ line. block_from kind b n (j + 1) line.1 (put (b + j) line.0 st))

-- What was read, with the store that it left.
abbrev pub found_in : Result Place LineFault → Store → Found
found_in r st = record { read = rest_read r; store = st }

-- Lines taken, each in one pass: how many, what is left of the text, and the store.
pub record Taken : Type 0 where
  pub count : ℕ
  pub rest : Rest
  pub store : Store

-- What is left behind a line of n bytes, with its byte 10.
abbrev pub rest_behind : ℕ → Rest → Rest
rest_behind n r = record { line = r.line + 1; text = drop n r.text }

-- Of the next n lines of a kind, from its line j on, those before the first that is not taken; the lines before line j count as taken,
-- and their figures go to the places from b + j on.
unfoldable pub taken_from : Kind → ℕ → ℕ → ℕ → Rest → Store → Taken
taken_from kind b zero j r st = record { count = j; rest = r; store = st }
taken_from kind b (suc n) j r st =
    option_map_or (λ line. taken_from kind b n (j + 1) (rest_behind line.1 r) (put (b + j) line.0 st)) (entry_taken kind j r.text)
    (record { count = j; rest = r; store = st })

-- What was taken, with the store that it left.
abbrev pub taken_in : ℕ × Place → Store → Taken
taken_in r st = record { count = r.0; rest = rest_of r.1; store = st }
