-- What follows a job, level by level: a level's words are laid without a change to any others, and those of the next job stay.
-- Assumes nothing.
use mathlib.Core.Path.{◌≡◌, refl, ◌∙◌}
use mathlib.Core.Logic.{◌⊎◌, inl, inr}
use mathlib.Core.List.{List}
use Prim.Native.Nat.{ℕ, ◌+◌, ◌≤◌, ◌<◌}
use native.Mathlib.Decide.{dec_lt}
use native.Mathlib.Omega.{arith}
use Rattle.frame.specs.Sheet.{Sheet}
use Rattle.frame.specs.Table.{place}
use Rattle.table.specs.Table.{base, Holds}
use Rattle.table.proofs.Cells.{place_from}
use Rattle.spans.specs.Spans.{Spans}
use Rattle.follow.specs.Follow.{Kept, Follows, Ahead}
use Rattle.table.proofs.Places.{base_start, base_before}

-- ---- words that are kept

pub kept_none : (lo hi : ℕ) (t : List ℕ) → Kept lo hi t t
kept_none lo hi t = record { long = refl; outside = λ q h. refl }

pub kept_both : {lo hi : ℕ} {a b c : List ℕ} → Kept lo hi a b → Kept lo hi b c → Kept lo hi a c
kept_both v w = record { long = w.long ∙ v.long; outside = λ q h. w.outside q h ∙ v.outside q h }

narrower : (lo' hi' lo hi q : ℕ) → lo ≤ lo' → hi' ≤ hi → (q < lo) ⊎ (hi ≤ q) → (q < lo') ⊎ (hi' ≤ q)
narrower lo' hi' lo hi q l h (inl g) = inl (omega arith)
narrower lo' hi' lo hi q l h (inr g) = inr (omega arith)

pub kept_wide : {lo' hi' lo hi : ℕ} {a b : List ℕ} → lo ≤ lo' → hi' ≤ hi → Kept lo' hi' a b → Kept lo hi a b
kept_wide {lo'} {hi'} {lo} {hi} l h w = record { long = w.long; outside = λ q g. w.outside q (narrower lo' hi' lo hi q l h g) }

pub kept_spans : {at n lo hi : ℕ} {a b : List ℕ} {f : ℕ → ℕ} → lo ≤ at → at + n ≤ hi → Spans a b at n f → Kept lo hi a b
kept_spans {at} {n} {lo} {hi} l h w = record { long = w.long; outside = λ q g. w.outside q (narrower at (at + n) lo hi q l h g) }

module _ (s : Sheet) where
  -- Words of a later job are kept.
  pub holds_kept : {i lo hi : ℕ} {a b : List ℕ} → hi ≤ base s i 0 → Kept lo hi a b → Holds s a i → Holds s b i
  holds_kept {i} {lo} {hi} l w h =
      record {
        words = λ hi p x y hp hx hy.
            w.outside (place s i p x y) (inr (omega (arith, l, base_start s i, place_from s i p x y))) ∙ h.words hi p x y hp hx hy;
      }

  -- ---- what follows, level by level

  pub ahead_none : (i : ℕ) (t : List ℕ) → Ahead s i 0 t
  ahead_none i t = record { words = λ j y h. absurd (omega arith) }

  pub ahead_more : {i j : ℕ} {a b : List ℕ} → Ahead s i j a → Follows s i j a b → Ahead s i (j + 1) b
  ahead_more {i} {j} w k =
      record {
        words = λ q y hq hy.
            elim (dec_lt q j) [
              | yes g ↦ k.kept.outside (base s i q + y) (inl (omega (arith, base_before s i q j g))) ∙ w.words q y g hy
              | no g ↦ let z : q ≡ j = omega arith in rw z (k.words y hy)
            ];
      }

pub ahead_all : {s : Sheet} {i j k : ℕ} {t : List ℕ} → Ahead s i j t → k ≤ j → Ahead s i k t
ahead_all w h = record { words = λ q y hq hy. w.words q y (omega arith) hy }
