-- Laws of the numbers of a line that are taken in one pass: those that are taken stand in front of those that are left.
-- Assumes nothing.
use mathlib.Core.Path.{◌≡◌, refl, sym, ◌∙◌}
use mathlib.Core.Bool.{false}
use mathlib.Core.List.{List, [], ◌∷◌, ◌++◌}
use Prim.Native.Nat.{ℕ, suc, ◌+◌, ◌-◌, ◌≤◌, ◌<◌}
use native.Mathlib.Omega.{arith}
use lib.ListN.{length, set, take, drop, length-set, length-drop}
use Rattle.std.specs.Prelude.{Option, Some, None}
use Rattle.std.specs.Option.{option_map}
use Rattle.std.specs.Option.{option_and_then}
use Rattle.std.proofs.Common.{append_assoc, append-nil}
use Rattle.std.proofs.lemmas.List.{take_all, take_more_set, drop_all, drop-drop}
use lib.Seq.{drop-cons}
use Rattle.fields.specs.declared.Range.{Range}
use Rattle.fields.specs.Fields.{fields_of}
use Rattle.fields.proofs.Fields.{range_at}
use Rattle.fast_fields.specs.Take.{taken, line_taken, ShortRanges, starts}
use Rattle.fast_fields.proofs.Number.{taken_number}
use Rattle.fast_fields.proofs.Line.{Starts, stop_at, joined, numbers_taken, line_unstarted, line_numbers}
use Rattle.fast_lines.specs.Take.{room_for}

-- Numbers that were taken, with p bytes, in front of those that are taken behind them.
abbrev in_front : List ℕ → ℕ → Option (List ℕ × ℕ) → Option (List ℕ × ℕ)
in_front xs p r = option_map (λ x. (xs ++ x.0, p + x.1)) r

-- Of the numbers of the line that the text t starts with, the first j are taken, and the next one starts at place p.
pub record Taking (letter : ℕ) (ranges : List Range) (t values : List ℕ) (p j : ℕ) : Type 0 where
  pub room : room_for (length ranges) ≤ length t
  pub near : p ≤ room_for j
  pub long : length values ≡ length ranges
  pub same : line_taken (room_for (length ranges)) (fields_of letter ranges) t ≡ in_front (take j values) p (numbers_taken (drop j ranges) (drop p t))

pub unstarted : (letter : ℕ) (ranges : List Range) (t : List ℕ) → 0 < length ranges →
    starts letter (room_for (length ranges)) t ≡ false → line_taken (room_for (length ranges)) (fields_of letter ranges) t ≡ None
unstarted letter [] t h e = absurd (omega arith)
unstarted letter (range ∷ ranges) t h e = line_unstarted letter _ range ranges t e

pub taking_none : (letter : ℕ) (ranges : List Range) (t values : List ℕ) → Starts letter (room_for (length ranges)) t → 65 ≤ letter →
    0 < length ranges → ShortRanges ranges → length values ≡ length ranges → Taking letter ranges t values 2 0
taking_none letter [] t values z high h short l = absurd (omega arith)
taking_none letter (range ∷ ranges) t values z high h short l =
    record { room = z.within; near = omega arith; long = l; same = line_numbers letter _ range ranges t z high (omega arith) short }

-- What is taken goes on behind one number more.
in_front_more : (xs : List ℕ) (p v k : ℕ) (r : Option (List ℕ × ℕ)) → in_front xs p (joined v k r) ≡ in_front (xs ++ v ∷ []) (p + (k + 1)) r
in_front_more xs p v k None = refl
in_front_more xs p v k (Some x) = let e : p + (k + 1 + x.1) ≡ p + (k + 1) + x.1 = omega arith in rw (append_assoc, e) refl

-- The byte that has to end number j of n, by whether a number follows.
pub stop_tab : (j n : ℕ) → j + 1 < n → 9 ≡ stop_at (n - suc j)
stop_tab j n h = let e : n - suc j ≡ suc (n - suc (suc j)) = omega arith in rw e refl

pub stop_end : (j n : ℕ) → n ≤ j + 1 → 10 ≡ stop_at (n - suc j)
stop_end j n h = let e : n - suc j ≡ 0 = omega arith in rw e refl

module _ {letter : ℕ} {ranges : List Range} {t values : List ℕ} {p j : ℕ} (g : Taking letter ranges t values p j) where
  -- What is taken of the line.
  abbrev pub line : Option (List ℕ × ℕ)
  line = line_taken (room_for (length ranges)) (fields_of letter ranges) t

  pub taking_all : length ranges ≤ j → Some (values, p) ≡ line
  unfolding numbers_taken
  taking_all h =
      let z : p + 0 ≡ p = omega arith in
      sym (g.same ∙ rw (drop_all j ranges h, take_all j values (omega (arith, g.long)), append-nil values, z) refl)

  module _ (h : j < length ranges) (stop : ℕ) (q : stop ≡ stop_at (length ranges - suc j)) where
    -- The text from the next number on, as a part of the text.
    abbrev pub rest : List ℕ
    rest = take (length t - p) (drop p t)

    behind : rest ≡ drop p t
    behind = take_all (length t - p) (drop p t) (omega (arith, length-drop p t))

    here : drop j ranges ≡ range_at ranges j ∷ drop (suc j) ranges
    here = drop-cons ranges j (record { least = 0; most = 0 }) h

    next : {r : Option (ℕ × ℕ)} → r ≡ taken stop (range_at ranges j) rest →
        line ≡ in_front (take j values) p (option_and_then (λ x. joined x.0 x.1 (numbers_taken (drop (suc j) ranges) (drop (x.1 + 1) (drop p t)))) r)
    unfolding numbers_taken
    next e = g.same ∙ rw (here, length-drop (suc j) ranges, ← q, ← behind, ← e) refl

    pub taking_other : None ≡ taken stop (range_at ranges j) rest → None ≡ line
    taking_other e = sym (next e)

    module _ (v k : ℕ) (e : Some (v, k) ≡ taken stop (range_at ranges j) rest) where
      pub taking_few : k ≤ 8
      taking_few = (taken_number stop (range_at ranges j) rest v k (sym e)).few

      pub taking_on : Taking letter ranges t (set values j v) (p + (k + 1)) (j + 1)
      taking_on =
          let l = taking_few in
          let n : suc j ≡ j + 1 = omega arith in
          record {
            room = g.room;
            near = omega (arith, g.near);
            long = length-set values j v ∙ g.long;
            same = next e
                ∙ in_front_more (take j values) p v k _
                ∙ rw (drop-drop (k + 1) p t, take_more_set values j v (omega (arith, g.long)), n) refl;
          }
