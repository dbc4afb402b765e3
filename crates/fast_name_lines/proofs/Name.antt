-- Laws of names and of lines J that are taken in one pass: what each byte adds, what is taken and what not.
-- Assumes nothing.
use mathlib.Core.Path.{◌≡◌, refl, ap, sym, ◌∙◌}
use mathlib.Core.Logic.{◌⊎◌, inl, inr, ⊎_elim}
use mathlib.Core.Bool.{Bool, true, false, cond, ◌&&◌}
use mathlib.Core.List.{List, [], ◌∷◌}
use Prim.Native.Nat.{ℕ, zero, suc, ◌+◌, ◌-◌, ◌≤◌, ◌<◌}
use native.Mathlib.Decide.{ℕ_discrete}
use native.Mathlib.Omega.{arith}
use lib.Dec.{leb}
use lib.ListN.{length, get_or, take, drop, length-drop}
use borrow.Author.Tests.{eq-eqb}
use Rattle.std.proofs.lemmas.List.{take_all, get_or-drop}
use Rattle.std.specs.Prelude.{Option, Some, None, Result, Ok, Err}
use Rattle.std.specs.Char.{is_ascii_graphic}
use Rattle.std.specs.List.{prefix_len}
use Rattle.std.specs.Option.{option_map}
use Rattle.text.specs.Text.{before, until, ahead, all}
use Rattle.text.proofs.Text.{before_hit, before_pass, until_hit, until_pass, drop_here, length_until, lt_ahead, all_none}
use Rattle.text.proofs.Tests.{clash}
use Rattle.fields.specs.Fields.{opens}
use Rattle.fields.specs.declared.Fault.{Fault}
use Rattle.name_lines.specs.Name.{name_max, is_name, name_on, name_fault}
use Rattle.name_lines.proofs.Name.{name_form, name_all, name_some, name_few}
use Rattle.fast_fields.specs.Take.{starts, line_taken}
use Rattle.fast_fields.proofs.Onward.{all_count, Onward}
use Rattle.fast_fields.proofs.Line.{line_takes, line_left, Starts, opens_starts, starts_onward, starts_opens}
use Rattle.fast_name_lines.specs.Name.{name_line_max}

-- ---- the bytes of a name

all_graphic : (c : ℕ) (t : List ℕ) → all 33 126 (c ∷ t) ≡ cond (is_ascii_graphic c) (all 33 126 t) false
unfolding all
all_graphic c t = go (leb 33 c) (leb c 126)
  where
    go : (a b : Bool) → cond a (cond b (all 33 126 t) false) false ≡ cond (a && b) (all 33 126 t) false
    go true b = refl
    go false b = refl

-- Of the line that the text t starts with, k bytes of a name stand first; no byte of one follows, or k is n.
pub record Letters (t : List ℕ) (n k : ℕ) : Type 0 where
  pub few : k ≤ n
  pub rest : all 33 126 (until 10 t) ≡ all 33 126 (until 10 (drop k t))
  pub size : before 10 t ≡ k + before 10 (drop k t)
  pub next : k < n → is_ascii_graphic (get_or t k 0) ≡ false

letters_more : (c : ℕ) (t : List ℕ) (n k : ℕ) → is_ascii_graphic c ≡ true → Letters t n k → Letters (c ∷ t) (suc n) (suc k)
letters_more c t n k e z =
    let o : c ≡ 10 → ⊥ = λ q. let w = clash (sym e ∙ ap is_ascii_graphic q) in omega arith in
    record {
      few = omega (arith, z.few);
      rest = ap (all 33 126) (until_pass 10 c t o) ∙ all_graphic c (until 10 t) ∙ rw e z.rest;
      size = omega (arith, before_pass 10 c t o, z.size);
      next = λ l. z.next (omega arith);
    }

pub letters : (n : ℕ) (t : List ℕ) → n ≤ length t → Letters t n (prefix_len is_ascii_graphic (take n t))
letters zero t h = record { few = omega arith; rest = refl; size = omega arith; next = λ l. absurd (omega arith) }
letters (suc n) [] h = absurd (omega arith)
letters (suc n) (c ∷ t) h = go (is_ascii_graphic c) refl (letters n t (omega arith))
  where
    go : (b : Bool) → is_ascii_graphic c ≡ b → Letters t n (prefix_len is_ascii_graphic (take n t)) →
        Letters (c ∷ t) (suc n) (cond b (1 + prefix_len is_ascii_graphic (take n t)) 0)
    go true e z =
        let k = prefix_len is_ascii_graphic (take n t) in
        let w : 1 + k ≡ suc k = omega arith in
        rw w (letters_more c t n k e z)
    go false e z = record { few = omega arith; rest = refl; size = omega arith; next = λ l. e }

module _ (t : List ℕ) (k : ℕ) (z : Letters t name_max k) (h : k < length t) where
  here : drop k t ≡ get_or t k 0 ∷ drop (k + 1) t
  here = drop_here t k h

  -- A byte 10 ends the name.
  letters_name : 0 < k → get_or t k 0 ≡ 10 → (ahead 10 t ≡ true) × (is_name (until 10 t) ≡ true) × (before 10 t ≡ k)
  letters_name l e =
      let b : before 10 t ≡ k = omega (arith, z.size, ap (before 10) here, before_hit 10 _ (drop (k + 1) t) e) in
      let n = length_until 10 t in (
        lt_ahead 10 t (omega arith),
        name_form (until 10 t) (omega arith) (omega (arith, z.few)) ∙ z.rest ∙ ap (all 33 126) (ap (until 10) here ∙ until_hit 10 _ _ e) ∙ all_none 33 126,
        b,
      )

  -- Where the bytes are none, or end otherwise, there is no name.
  letters_other : (k ≡ 0) ⊎ (get_or t k 0 ≡ 10 → ⊥) → is_name (until 10 t) ≡ true → ⊥
  letters_other c n =
      elim (ℕ_discrete (get_or t k 0) 10) [
        | yes e ↦
            omega (arith, z.size, ap (before 10) here, before_hit 10 _ (drop (k + 1) t) e, name_some _ n, length_until 10 t, ⊎_elim (λ (q : k ≡ 0). q) (λ (o : get_or t k 0 ≡ 10 → ⊥). absurd (o e)) c)
        | no o ↦
            let b = z.size ∙ ap (λ (x : ℕ). k + x) (ap (before 10) here ∙ before_pass 10 _ (drop (k + 1) t) o) in
            let l : k < name_max = omega (arith, b, name_few _ n, length_until 10 t) in
            let a = z.rest ∙ ap (all 33 126) (ap (until 10) here ∙ until_pass 10 _ (drop (k + 1) t) o) ∙ all_graphic (get_or t k 0) (until 10 (drop (k + 1) t)) in
            let w = clash (sym (name_all _ n) ∙ a ∙ rw (z.next l) refl) in
            omega arith
      ]

-- ---- a line J

-- How many bytes the line J has that is taken of the text t.
abbrev size_taken : List ℕ → Option ℕ
size_taken t = option_map (λ line. line.1) (line_taken name_line_max name_fault t)

module _ (t : List ℕ) where
  -- A sound line J has its letter, and its name.
  name_parts : {u : Unit} → name_fault (until 10 t) ≡ Ok u → (opens 74 1 (until 10 t) ≡ true) × (is_name (name_on (until 10 t)) ≡ true)
  unfolding name_fault
  name_parts = go (opens 74 1 (until 10 t)) (is_name (name_on (until 10 t))) _ _
    where
      go : (a b : Bool) (f g : Fault) {u : Unit} → ◌≡◌ {A = Result Unit Fault} (cond a (cond b (Ok tt) (Err f)) (Err g)) (Ok u) → (a ≡ true) × (b ≡ true)
      go true true f g e = (refl, refl)
      go true false f g e = let n : ◌≡◌ {A = ℕ} 0 1 = cc in absurd (omega arith)
      go false b f g e = let n : ◌≡◌ {A = ℕ} 0 1 = cc in absurd (omega arith)

  pub name_unstarted : starts 74 name_line_max t ≡ false → size_taken t ≡ None
  name_unstarted e =
      ap (option_map (λ line. line.1)) (line_left name_line_max name_fault t (λ u z.
      let c = clash (sym (opens_starts 74 name_line_max t 1 (omega arith) z.within (name_parts z.says).0) ∙ e) in
      omega arith))

  -- The text behind the letter and the byte 9.
  behind : take (length t - 2) (drop 2 t) ≡ drop 2 t
  behind = take_all (length t - 2) (drop 2 t) (omega (arith, length-drop 2 t))

  pub name_room : Starts 74 name_line_max t → name_max ≤ length (take (length t - 2) (drop 2 t))
  name_room z = rw behind (omega (arith, z.within, length-drop 2 t))

  pub counted : Starts 74 name_line_max t → (k : ℕ) → k ≡ prefix_len is_ascii_graphic (take name_max (take (length t - 2) (drop 2 t))) → Letters (drop 2 t) name_max k
  counted z k e = rw (e, behind) (letters name_max (drop 2 t) (omega (arith, z.within, length-drop 2 t)))

  module _ (z : Starts 74 name_line_max t) (k : ℕ) (l : Letters (drop 2 t) name_max k) where
    o : Onward t 2
    o = starts_onward z (omega arith) (omega arith)

    room : k < length (drop 2 t)
    room = omega (arith, l.few, z.within, length-drop 2 t)

    name_sound : is_name (until 10 (drop 2 t)) ≡ true → name_fault (until 10 t) ≡ Ok tt
    unfolding name_fault
    name_sound n =
        let a = starts_opens z (omega arith) (omega arith) 0 ∙ eq-eqb _ _ (all_count 33 126 (omega arith) _ (name_all _ n)) in
        rw (a, o.rest, n) refl

    same : get_or (drop 2 t) k 0 ≡ get_or t (2 + k) 0
    same = get_or-drop 2 t k 0

    pub name_taken : 0 < k → get_or t (2 + k) 0 ≡ 10 → size_taken t ≡ Some (2 + k + 1)
    name_taken h e =
        let n = letters_name (drop 2 t) k l room h (same ∙ e) in
        ap (option_map (λ line. line.1)) (line_takes name_line_max name_fault t (record {
          within = z.within;
          ends = o.ends ∙ n.0;
          says = name_sound n.1;
          size = omega (arith, o.end, n.2);
        }))

    pub name_left : (k ≡ 0) ⊎ (get_or t (2 + k) 0 ≡ 10 → ⊥) → size_taken t ≡ None
    name_left c =
        let d = ⊎_elim (λ (q : k ≡ 0). inl q) (λ (n : get_or t (2 + k) 0 ≡ 10 → ⊥). inr (λ e. n (sym same ∙ e))) c in
        ap (option_map (λ line. line.1)) (line_left name_line_max name_fault t (λ u y.
        letters_other (drop 2 t) k l room d (ap is_name (sym o.rest) ∙ (name_parts y.says).1)))
