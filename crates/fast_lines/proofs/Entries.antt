-- Laws of a line of a kind that is taken in one pass: what its numbers say.
-- Assumes nothing.
use mathlib.Core.Path.{◌≡◌, refl, sym, ◌∙◌}
use mathlib.Core.Bool.{Bool, true, false, cond}
use mathlib.Core.List.{List, [], ◌∷◌}
use Prim.Native.Nat.{ℕ, ◌+◌}
use lib.Dec.{leb}
use lib.ListN.{length, get_or}
use Rattle.std.specs.Prelude.{Option, Some, None, Result, Ok, Err}
use Rattle.std.specs.Option.{option_and_then, option_map}
use Rattle.std.specs.Result.{result_ok}
use Rattle.text.specs.Text.{before, until, ahead}
use Rattle.fields.specs.Fields.{after, fields_of}
use Rattle.fields.specs.declared.Fault.{Fault}
use Rattle.fields.specs.declared.Range.{Range}
use Rattle.fast_fields.specs.Take.{line_taken}
use Rattle.fast_fields.proofs.Line.{line_at}
use Rattle.line_kinds.specs.declared.Kind.{Kind}
use Rattle.line_kinds.specs.declared.Kind.TheVariants.{Level, Change, Work}
use Rattle.line_kinds.specs.declared.Entry.{Entry}
use Rattle.line_kinds.specs.Figures.{cost_range, level_ranges, work_ranges, steady_fields, level_fields, change_entry, work_entry, change_fields, work_fields, fields_for}
use Rattle.fast_lines.specs.Take.{room_for, room_of, entry_taken}

-- What is made of numbers that were taken.
abbrev pub made : (List ℕ → Result Entry Fault) → Option (List ℕ × ℕ) → Option (Entry × ℕ)
made f r = option_and_then (λ x. after {X = Option (Entry × ℕ)} (f x.0) (λ g. None) (λ a. Some (a, x.1))) r

of_numbers : (room : ℕ) (read : List ℕ → Result (List ℕ) Fault) (f : List ℕ → Result Entry Fault) (says : List ℕ → Result Entry Fault) (t : List ℕ) →
    says (until 10 t) ≡ after (read (until 10 t)) Err f → {r : Option (List ℕ × ℕ)} → r ≡ line_taken room read t → made f r ≡ line_taken room says t
unfolding line_taken
of_numbers room read f says t e {r} q = rw (q, e) (go (leb room (length t)) (ahead 10 t) (read (until 10 t)))
  where
    go : (a b : Bool) (x : Result (List ℕ) Fault) →
        made f (cond a (cond b (after x (λ g. None) (λ vs. Some (vs, before 10 t + 1))) None) None)
        ≡ cond a (cond b (after {X = Option (Entry × ℕ)} (after x Err f) (λ g. None) (λ v. Some (v, before 10 t + 1))) None) None
    go true true (Ok x) = refl
    go true true (Err g) = refl
    go true false x = refl
    go false b x = refl

-- What is made of numbers that say r is what r holds, where that is no fault.
held : (r : Result Entry Fault) (n : ℕ) → after {X = Option (Entry × ℕ)} r (λ g. None) (λ a. Some (a, n)) ≡ option_map (λ a. (a, n)) (result_ok r)
held (Ok a) n = refl
held (Err g) n = refl

module _ (kind : Kind) (j : ℕ) (t : List ℕ) where
  -- An L line.
  module _ (resistance : ℕ) (k : kind ≡ Level resistance) where
    pub level : {r : Option (List ℕ × ℕ)} → r ≡ line_taken (room_for 1) (fields_of 76 level_ranges) t →
        made (λ vs. steady_fields resistance (get_or vs 0 0)) r ≡ entry_taken kind j t
    unfolding entry_taken fields_for level_fields
    level e = rw k (of_numbers _ _ (λ vs. steady_fields resistance (get_or vs 0 0)) (fields_for (Level resistance) j) t refl e)

    pub level_held : (n : ℕ) (vs : List ℕ) → Some (vs, n) ≡ line_taken (room_for 1) (fields_of 76 level_ranges) t → (r : Result Entry Fault) →
        r ≡ steady_fields resistance (get_or vs 0 0) → (o : Option Entry) → o ≡ result_ok r → option_map (λ a. (a, n)) o ≡ entry_taken kind j t
    level_held n vs e r q o p = rw (p, q) (sym (held (steady_fields resistance (get_or vs 0 0)) n) ∙ level e)

  -- An S line, of which both numbers have the range.
  module _ (p : ℕ) (k : kind ≡ Change p) (range : Range) (m : range ≡ cost_range p j) where
    pub change : {r : Option (List ℕ × ℕ)} → r ≡ line_taken (room_for 2) (fields_of 83 (range ∷ range ∷ [])) t →
        made (λ vs. Ok (change_entry vs)) r ≡ entry_taken kind j t
    unfolding entry_taken fields_for change_fields
    change e = rw k (of_numbers _ _ (λ vs. Ok (change_entry vs)) (fields_for (Change p) j) t (rw m refl) e)

  -- A B line.
  pub work : kind ≡ Work → {r : Option (List ℕ × ℕ)} → r ≡ line_taken (room_for 3) (fields_of 66 work_ranges) t →
      made (λ vs. Ok (work_entry vs)) r ≡ entry_taken kind j t
  unfolding entry_taken fields_for work_fields
  work k e = rw k (of_numbers _ _ (λ vs. Ok (work_entry vs)) (fields_for Work j) t refl e)

-- A line that is taken ends at a byte 10, and is sound.
pub entry_at : (kind : Kind) (j : ℕ) (t : List ℕ) {entry : Entry} {n : ℕ} → Some (entry, n) ≡ entry_taken kind j t →
    (ahead 10 t ≡ true) × (fields_for kind j (until 10 t) ≡ Ok entry) × (n ≡ before 10 t + 1)
unfolding entry_taken
entry_at kind j t e = let z = line_at (room_of kind) (fields_for kind j) t (sym e) in (z.ends, z.says, z.size)
