-- What the first field of a line says of the line: where it ends, and how it goes on behind the field.
-- Assumes nothing.
use mathlib.Core.Path.{◌≡◌, ap, sym, ◌∙◌}
use mathlib.Core.Bool.{true}
use mathlib.Core.List.{List, [], ◌∷◌}
use Prim.Native.Nat.{ℕ, suc, ◌+◌, ◌<◌}
use native.Mathlib.Decide.{ℕ_discrete}
use native.Mathlib.Omega.{arith}
use lib.ListN.{length, drop, length-drop}
use Rattle.text.specs.Text.{before, until, beyond, ahead, count, all}
use Rattle.text.proofs.Text.{before_none, before_hit, before_pass, until_none, until_hit, until_pass, beyond_hit, beyond_pass, count_none, count_hit, count_pass, ahead_lt, all_first}
use Rattle.text.proofs.Tests.{ltb_same}

-- The next line of the text t goes on behind its first field, which a byte 9 ends.
record Parted (t : List ℕ) : Type 0 where
  end : before 10 t ≡ suc (before 9 t) + before 10 (beyond 9 t)
  field : until 9 (until 10 t) ≡ until 9 t
  rest : beyond 9 (until 10 t) ≡ until 10 (beyond 9 t)
  tabs : count 9 (until 10 t) ≡ suc (count 9 (until 10 (beyond 9 t)))

-- The next line of the text t, or a rest of it, goes on behind its first field, n bytes on.
pub record Onward (t : List ℕ) (n : ℕ) : Type 0 where
  pub ends : ahead 10 t ≡ ahead 10 (drop n t)
  pub end : before 10 t ≡ n + before 10 (drop n t)
  pub field : until 9 (until 10 t) ≡ until 9 t
  pub rest : beyond 9 (until 10 t) ≡ until 10 (drop n t)
  pub tabs : count 9 (until 10 t) ≡ suc (count 9 (until 10 (drop n t)))

-- Bytes from lo to hi, above 9 and 10.
module _ (lo hi : ℕ) (high : 10 < lo) where
  -- They are no more than one field.
  pub all_count : (t : List ℕ) → all lo hi t ≡ true → count 9 t ≡ 0
  all_count [] a = count_none 9
  all_count (c ∷ t) a =
      let f = all_first lo hi c t a in
      count_pass 9 c t (λ e. omega arith) ∙ all_count t f.2

  -- They are the first field of a text.
  parted : (t : List ℕ) → all lo hi (until 9 t) ≡ true → before 9 t < length t → Parted t
  parted [] a h = absurd (omega (arith, before_none 9))
  parted (c ∷ t) a h =
      elim (ℕ_discrete c 9) [
        | yes e ↦
            let n : c ≡ 10 → ⊥ = λ w. omega arith in
            let b = before_pass 10 c t n in
            let u = until_pass 10 c t n in
            record {
              end = rw (beyond_hit 9 c t e) (omega (arith, before_hit 9 c t e, b));
              field = ap (until 9) u ∙ until_hit 9 c (until 10 t) e ∙ sym (until_hit 9 c t e);
              rest = ap (beyond 9) u ∙ beyond_hit 9 c (until 10 t) e ∙ ap (until 10) (sym (beyond_hit 9 c t e));
              tabs = ap (count 9) u ∙ count_hit 9 c (until 10 t) e ∙ ap (λ (x : List ℕ). suc (count 9 (until 10 x))) (sym (beyond_hit 9 c t e));
            }
        | no m ↦
            let f = all_first lo hi c (until 9 t) (ap (all lo hi) (sym (until_pass 9 c t m)) ∙ a) in
            let n : c ≡ 10 → ⊥ = λ w. omega arith in
            let k = before_pass 9 c t m in
            let z = parted t f.2 (omega arith) in
            let u = until_pass 10 c t n in
            let y = beyond_pass 9 c t m in
            record {
              end = rw y (omega (arith, before_pass 10 c t n, k, z.end));
              field = ap (until 9) u ∙ until_pass 9 c (until 10 t) m ∙ ap (λ (x : List ℕ). c ∷ x) z.field ∙ sym (until_pass 9 c t m);
              rest = ap (beyond 9) u ∙ beyond_pass 9 c (until 10 t) m ∙ z.rest ∙ ap (until 10) (sym y);
              tabs = ap (count 9) u ∙ count_pass 9 c (until 10 t) m ∙ z.tabs ∙ ap (λ (x : List ℕ). suc (count 9 (until 10 x))) (sym y);
            }
      ]

  pub onward : (t : List ℕ) (n : ℕ) → all lo hi (until 9 t) ≡ true → ahead 9 t ≡ true → n ≡ suc (before 9 t) → Onward t n
  unfolding ahead beyond
  onward t n a b e =
      let h = ahead_lt 9 t b in
      let z = parted t a h in
      rw e (record {
        ends = ltb_same (before 10 t) (length t) (before 10 (drop (suc (before 9 t)) t)) (length (drop (suc (before 9 t)) t))
            (λ x. omega (arith, z.end, length-drop (suc (before 9 t)) t)) (λ x. omega (arith, z.end, length-drop (suc (before 9 t)) t));
        end = z.end;
        field = z.field;
        rest = z.rest;
        tabs = z.tabs;
      })

-- Where the next line of the text t has a byte 9, its first field is that of the text.
pub first_field : (t : List ℕ) → 0 < count 9 (until 10 t) → (until 9 t ≡ until 9 (until 10 t)) × (before 9 t < length t)
first_field [] h = absurd (omega (arith, ap (count 9) (until_none 10) ∙ count_none 9))
first_field (c ∷ t) h =
    elim (ℕ_discrete c 10) [
      | yes e ↦ absurd (omega (arith, ap (count 9) (until_hit 10 c t e) ∙ count_none 9))
      | no n ↦
          let u = until_pass 10 c t n in
          elim (ℕ_discrete c 9) [
            | yes e ↦ (
              until_hit 9 c t e ∙ sym (until_hit 9 c (until 10 t) e) ∙ ap (until 9) (sym u),
              omega (arith, before_hit 9 c t e),
            )
            | no m ↦
                let z = first_field t (omega (arith, ap (count 9) u ∙ count_pass 9 c (until 10 t) m)) in (
                  until_pass 9 c t m ∙ ap (λ (x : List ℕ). c ∷ x) z.0 ∙ sym (until_pass 9 c (until 10 t) m) ∙ ap (until 9) (sym u),
                  omega (arith, before_pass 9 c t m, z.1),
                )
          ]
    ]

-- A line without a byte 9 is one field.
pub one_field : (t : List ℕ) → count 9 t ≡ 0 → until 9 t ≡ t
one_field [] h = until_none 9
one_field (c ∷ t) h =
    elim (ℕ_discrete c 9) [
      | yes e ↦ absurd (omega (arith, count_hit 9 c t e))
      | no n ↦ until_pass 9 c t n ∙ ap (λ (x : List ℕ). c ∷ x) (one_field t (sym (count_pass 9 c t n) ∙ h))
    ]
