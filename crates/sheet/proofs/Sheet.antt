-- Laws of a whole sheet: what each test of the reader says of it.
-- Assumes nothing.
use mathlib.Core.Path.{◌≡◌, refl, sym}
use mathlib.Core.Bool.{false, true}
use mathlib.Core.List.{List}
use Prim.Native.Nat.{ℕ, ◌≤◌, ◌<◌}
use lib.Dec.{eqb}
use lib.ListN.{length}
use borrow.Author.Tests.{lt-ltb, le-ltb}
use Rattle.std.specs.Prelude.{Result, Ok, Err, IsErr, IsErrAnd}
use Rattle.text.specs.declared.Line.{Line}
use Rattle.fields.specs.declared.Fault.{Fault}
use Rattle.reading.specs.declared.LineFault.{LineFault}
use Rattle.reading.specs.declared.place.Place.{Place}
use Rattle.reading.specs.Rest.{Rest, whole, rest_of, next_by, ReadBy}
use Rattle.reading.proofs.Rest.{read_by}
use Rattle.reading.proofs.Next.{line_read}
use Rattle.lines.specs.Lines.{stop}
use Rattle.body.specs.Body.{body_from}
use Rattle.refusal.specs.declared.Refusal.{Refusal}
use Rattle.refusal.specs.declared.Refusal.TheVariants.{TooLong, Hot, Trailing}
use Rattle.refusal.specs.Code.{refusal_of}
use Rattle.store.specs.declared.Head.{Head}
use Rattle.store.specs.declared.Store.{Store}
use Rattle.store.specs.Figures.{clear}
use Rattle.head.specs.Head.{version_fields, head_fields}
use Rattle.head.proofs.Head.{InRange, head_held}
use Rattle.sheet.specs.Reading.{read_in, cleared_in, refused_read, figures_from, head_from, reading_of}

-- A fault of a line is handed back as its refusal.
pub turned : (r : Result Head Refusal) (f : LineFault) (st : Store) → IsErr r × IsErrAnd r (λ e. e ≡ refusal_of f) → cleared_in r st ≡ refused_read (refusal_of f)
turned (Ok h) f st w = absurd cc
turned (Err e) f st w = rw w.1 refl

-- What a call of `read` reads of a line.
abbrev pub Says : {A : Type 0} → (Line → Result A Fault → Type 0) → (List ℕ → Result A Fault) → Type 0
Says {A} post read = (line : Line) (said : Result A Fault) → post line said → said ≡ read line.bytes.now

-- ---- the V line, and what comes after it

pub sheet_long : (s : List ℕ) → 20480 < length s → refused_read TooLong ≡ reading_of s
unfolding reading_of
sheet_long s h = rw (lt-ltb 20480 (length s) h) refl

module _ (s : List ℕ) (short : length s ≤ 20480) (first : Place) (begins : rest_of first ≡ whole s) (post : Line → Result ℕ Fault → Type 0)
    (says : Says post version_fields) where
  pub sheet_fault : (f : LineFault) → ReadBy post first (Err f) → refused_read (refusal_of f) ≡ reading_of s
  unfolding reading_of
  sheet_fault f w = let q = rw begins at (read_by version_fields first (Err f) w says) in rw (le-ltb 20480 (length s) short, ← q) refl

  pub sheet_on : (version : ℕ) (second : Place) → ReadBy post first (Ok (version, second)) → head_from version (rest_of second) ≡ reading_of s
  unfolding reading_of
  sheet_on version second w =
      let q = rw begins at (read_by version_fields first (Ok (version, second)) w says) in rw (le-ltb 20480 (length s) short, ← q) refl

-- ---- the H line, and what comes after it

module _ (version : ℕ) (second : Place) (post : Line → Result Head Fault → Type 0) (says : Says post (head_fields version)) where
  pub head_fault : (f : LineFault) → ReadBy post second (Err f) → refused_read (refusal_of f) ≡ head_from version (rest_of second)
  unfolding head_from
  head_fault f w = let q = read_by (head_fields version) second (Err f) w says in rw (← q) refl

  module _ (head : Head) (third : Place) (w : ReadBy post second (Ok (head, third))) where
    found : Ok (head, rest_of third) ≡ next_by (head_fields version) (rest_of second)
    found = read_by (head_fields version) second (Ok (head, third)) w says

    pub head_range : InRange head
    head_range = head_held version _ head (line_read (head_fields version) (rest_of second) (head, rest_of third) (sym found)).says

    pub head_hot : head.temperature_limit < head.start_temperature → refused_read Hot ≡ head_from version (rest_of second)
    unfolding head_from
    head_hot h = rw (← found, lt-ltb head.temperature_limit head.start_temperature h) refl

    pub head_on : head.start_temperature ≤ head.temperature_limit → figures_from head (rest_of third) ≡ head_from version (rest_of second)
    unfolding head_from
    head_on h = rw (← found, le-ltb head.temperature_limit head.start_temperature h) refl

-- ---- the lines after the H line, read to a store that was clear

module _ (head : Head) (r : Rest) (old st : Store) (clean : old ≡ clear) where
  pub figures_fault : (f : LineFault) → stop st f ≡ body_from head.jobs head.levels head.resistance r old → refused_read (refusal_of f) ≡ figures_from head r
  unfolding figures_from
  figures_fault f e = let q = rw clean at e in rw (← q) refl

  module _ (end : Rest) (e : record { read = Ok end; store = st } ≡ body_from head.jobs head.levels head.resistance r old) where
    pub figures_trailing : false ≡ eqb (length end.text) 0 → refused_read (Trailing end.line) ≡ figures_from head r
    unfolding figures_from
    figures_trailing n = let q = rw clean at e in rw (← q, ← n) refl

    pub figures_read : true ≡ eqb (length end.text) 0 → read_in (Ok head) st ≡ figures_from head r
    unfolding figures_from
    figures_read n = let q = rw clean at e in rw (← q, ← n) refl
