-- A whole sheet (document 01, 'The sheet' and 'What is refused'): its figures, or the first refusal of 1 to 6 in the order that
-- document 01 fixes: "Number 1 is tested first. Then lines in order", with 5 after the H line's other fields, "Then 6".
-- Assumes nothing.
use Rattle.std.specs.Prelude.{cond, List, [], ℕ, eqb, ltb, length, Option, Some, None, Result, Ok, Err}
use Rattle.fields.specs.Fields.{after}
use Rattle.reading.specs.Rest.{Rest, whole, next_by}
use Rattle.lines.specs.Lines.{Found}
use Rattle.body.specs.Body.{body_from}
use Rattle.frame.specs.Sheet.{Sheet}
use Rattle.refusal.specs.declared.Refusal.{Refusal}
use Rattle.refusal.specs.declared.Refusal.TheVariants.{TooLong, Hot, Trailing}
use Rattle.refusal.specs.Code.{refusal_of}
use Rattle.store.specs.declared.Head.{Head}
use Rattle.store.specs.declared.Store.{Store}
use Rattle.store.specs.Figures.{clear, sheet_of}
use Rattle.head.specs.Head.{head_as, version_fields, head_fields}

-- A sheet that is read: its refusal or none, the figures of its V and H lines, and the store of the others.
pub record SheetRead : Type 0 where
  pub refusal : Option Refusal
  pub head : Head
  pub store : Store

-- The head of a refused sheet: "Every figure of a refused reply not named is 0."
abbrev pub no_head : Head
no_head = head_as 0 [] []

-- What was read, with the store that it left.
abbrev pub read_in : Result Head Refusal → Store → SheetRead
read_in (Ok h) st = record { refusal = None; head = h; store = st }
read_in (Err f) st = record { refusal = Some f; head = no_head; store = st }

-- A refused sheet leaves a clear store.
abbrev pub refused_read : Refusal → SheetRead
refused_read f = read_in (Err f) clear

-- What was read, where the store that a refused sheet left is still to be cleared.
abbrev pub cleared_in : Result Head Refusal → Store → SheetRead
cleared_in (Ok h) st = read_in (Ok h) st
cleared_in (Err f) st = refused_read f

-- After the H line, with the figures of the V line and the H line: the other lines, and then 6, "bytes after the last line".
unfoldable pub figures_from : Head → Rest → SheetRead
figures_from head r =
    let f : Found = body_from head.jobs head.levels head.resistance r clear in
    after f.read (λ fault. refused_read (refusal_of fault))
    (λ end. cond (eqb (length end.text) 0) (read_in (Ok head) f.store) (refused_read (Trailing end.line)))

-- After the V line: the H line, and then 5, "start temperature in range, above ceiling".
unfoldable pub head_from : ℕ → Rest → SheetRead
head_from version r =
    after (next_by (head_fields version) r) (λ fault. refused_read (refusal_of fault))
    (λ head. cond (ltb head.0.temperature_limit head.0.start_temperature) (refused_read Hot) (figures_from head.0 head.1))

-- A sheet: 1, "sheet over 20,480 bytes", the V line, and the rest.
unfoldable pub reading_of : List ℕ → SheetRead
reading_of t =
    cond (ltb 20480 (length t)) (refused_read TooLong)
    (after (next_by version_fields (whole t)) (λ fault. refused_read (refusal_of fault)) (λ version. head_from version.0 version.1))

-- The sheet that a text holds.
abbrev pub sheet_in : List ℕ → Sheet
sheet_in t = let r : SheetRead = reading_of t in sheet_of r.head r.store
