-- Laws of `Wrote` and `Writes`: nothing, the part's length, and one piece after another.
-- Assumes nothing.
use mathlib.Core.Path.{◌≡◌, sym, ap, ◌∙◌}
use mathlib.Core.List.{List, [], ◌∷◌, ◌++◌, append_assoc, append-nil}
use Prim.Native.Nat.{ℕ, ◌+◌, ◌≤◌, ◌<◌}
use native.Mathlib.Nat.{add-zero, add_assoc}
use native.Mathlib.Numerals.{add-one}
use native.Mathlib.Omega.{arith}
use lib.ListN.{length, get_or, take, drop, length-append, length-take, length-drop, take-append-drop}
use lib.Seq.{take-suc, take_all, take_at, drop_at, drop-drop}
use Rattle.writer.specs.declared.Writer.{Writer}
use Rattle.writer.specs.Written.{Wrote, Writes, Room}

pub wrote_none : (old : List ℕ) (from : ℕ) → from ≤ length old → Wrote old from [] old from
wrote_none old from h = record { room = omega arith; bytes = rw (append-nil, add-zero, take-append-drop); place = omega arith }

pub wrote_length : {old xs new : List ℕ} {from next : ℕ} → Wrote old from xs new next → length new ≡ length old
wrote_length {old} {xs} {new} {from} w =
    rw (w.bytes, length-append, length-append, length-take, length-drop) (omega (arith, w.room))

-- One piece after another is both at once.
pub join : {a xs b ys c : List ℕ} {from p q : ℕ} → Wrote a from xs b p → Wrote b p ys c q → Wrote a from (xs ++ ys) c q
join {a} {xs} {b} {ys} {c} {from} {p} v w =
    let front : length (take from a ++ xs) ≡ p = rw (length-append, length-take) (omega (arith, v.room, v.place)) in
    let kept : take p b ≡ take from a ++ xs = rw v.bytes (take_at (take from a ++ xs) _ p front) in
    let rest : drop p b ≡ drop (from + length xs) a = rw v.bytes (drop_at (take from a ++ xs) _ p front) in
    let beyond : drop (p + length ys) b ≡ drop (from + length (xs ++ ys)) a =
    sym (drop-drop (length ys) p b) ∙ ap (drop (length ys)) rest ∙ drop-drop (length ys) (from + length xs) a ∙ rw (length-append, add_assoc) in
    record {
      room = rw length-append (omega (arith, v.room, v.place, w.room, wrote_length v));
      bytes = w.bytes ∙ rw (kept, beyond, append_assoc (take from a) xs ys);
      place = rw length-append (omega (arith, v.place, w.place));
    }

-- A part's length and the place of its next byte after a piece.
pub record Moved (old new : Writer) (n : ℕ) : Type 0 where
  pub long : length new.part.now ≡ length old.part.now
  pub place : new.at ≡ old.at + n

pub moved : {a b : Writer} {xs : List ℕ} → Writes a b xs → Moved a b (length xs)
moved v = record { long = wrote_length v.wrote; place = v.wrote.place }

pub writes_both : {a b c : Writer} {xs ys : List ℕ} → Writes a b xs → Writes b c ys → Writes a c (xs ++ ys)
writes_both v w = record { same_part = w.same_part ∙ v.same_part; wrote = join v.wrote w.wrote }

-- The part that was lent, once it is given back.
pub given_back : {a b : Writer} {xs text : List ℕ} → Writes a b xs → b.part.now ≡ text → Wrote a.part.now a.at xs text b.at
given_back v e = rw e at v.wrote

-- Of the bytes s the first i are written: there is room for one more, one more, and the last.
module _ {a b : Writer} (s : List ℕ) (i : ℕ) (w : Writes a b (take i s)) where
  pub written_room : i < length s → Room a (length s) → Room b 1
  written_room h r = omega (arith, moved w, length-take i s)

  pub written_more : {c : Writer} → i < length s → Writes b c (get_or s i 0 ∷ []) → Writes a c (take (i + 1) s)
  written_more h v = rw (add-one i, take-suc s i 0 h) (writes_both w v)

  pub written_all : length s ≤ i → Writes a b s
  written_all h = rw (take_all i s (omega arith)) at w
