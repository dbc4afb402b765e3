-- A text that is read line by line, each line by its number (document 01, 'What is refused'): "Then lines in order".
-- Assumes nothing.
use Rattle.std.specs.Prelude.{◌≡◌, cond, List, ℕ, ◌+◌, Result, Ok, Err}
use Rattle.std.specs.Result.{result_map_both}
use Rattle.text.specs.Text.{until, beyond, ahead}
use Rattle.text.specs.declared.Line.{Line}
use Rattle.fields.specs.declared.Fault.{Fault}
use Rattle.fields.specs.declared.Fault.TheVariants.{Shape}
use Rattle.fields.specs.Fields.{after}
use Rattle.reading.specs.declared.LineFault.{LineFault}
use Rattle.reading.specs.declared.place.Place.{Place}

-- What is left of a text, and the number of its next line.
pub record Rest : Type 0 where
  pub line : ℕ
  pub text : List ℕ

-- A whole text; its first line is line 1.
abbrev pub whole : List ℕ → Rest
whole t = record { line = 1; text = t }

-- What is left after the next line.
abbrev pub next_rest : Rest → Rest
next_rest r = record { line = r.line + 1; text = beyond 10 r.text }

-- A fault of the next line.
abbrev pub fault_of : Rest → Fault → LineFault
fault_of r f = record { line = r.line; fault = f }

-- The next line by what reads a line: what it says and what is left, or its fault. A line is missing where there is "no byte 10 ahead".
unfoldable pub next_by : {A : Type 0} → (List ℕ → Result A Fault) → Rest → Result (A × Rest) LineFault
next_by read r =
    cond (ahead 10 r.text) (after (read (until 10 r.text)) (λ f. Err (fault_of r f)) (λ a. Ok (a, next_rest r))) (Err (fault_of r Shape))

-- What a place of the code says.
abbrev pub rest_of : Place → Rest
rest_of p = record { line = p.line; text = p.rest.now }

-- What was read there.
abbrev pub read_to : {A : Type 0} → Result (A × Place) LineFault → Result (A × Rest) LineFault
read_to r = result_map_both (λ x. (x.0, rest_of x.1)) (λ f. f) r

-- What is left where nothing else was read.
abbrev pub rest_read : Result Place LineFault → Result Rest LineFault
rest_read r = result_map_both rest_of (λ f. f) r

-- The next line at a place was read by a call that gives what `post` says: the line is missing, or the call was made for it.
unfoldable pub ReadBy : {A : Type 0} → (Line → Result A Fault → Type 0) → Place → Result (A × Place) LineFault → Type 0
ReadBy {A} post p r =
    cond (ahead 10 p.rest.now)
    ((line : Line) × (said : Result A Fault) × (line.bytes.now ≡ until 10 p.rest.now) × post line said × (read_to r ≡ next_by (λ t. said) (rest_of p)))
    (read_to r ≡ Err (fault_of (rest_of p) Shape))
