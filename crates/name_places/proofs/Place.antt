-- Laws of places of names: lines that are passed over.
-- Assumes nothing.
use mathlib.Core.Path.{◌≡◌, refl, sym, ◌∙◌}
use mathlib.Core.List.{List}
use Prim.Native.Nat.{ℕ, zero, suc, ◌+◌, ◌-◌, ◌≤◌, ◌<◌}
use native.Mathlib.Omega.{arith}
use lib.ListN.{drop}
use Rattle.text.specs.Text.{before, beyond}
use Rattle.name_places.specs.Place.{skip}

pub skip_add : (a b : ℕ) (t : List ℕ) → skip (a + b) t ≡ skip b (skip a t)
unfolding skip
skip_add zero b t = let z : 0 + b ≡ b = omega arith in rw z refl
skip_add (suc a) b t = let z : suc a + b ≡ suc (a + b) = omega arith in rw z (skip_add a b (beyond 10 t))

-- What is behind the first byte b.
pub behind_first : (b : ℕ) (t : List ℕ) → drop (before b t + 1) t ≡ beyond b t
unfolding beyond
behind_first b t = let z : before b t + 1 ≡ suc (before b t) = omega arith in rw z refl

-- k of the next n lines of the text t are skipped.
abbrev pub Skipped : List ℕ → ℕ → ℕ → List ℕ → Type 0
Skipped t n k rest = skip n t ≡ skip (n - k) rest

pub skipped_none : (t : List ℕ) (n : ℕ) → Skipped t n 0 t
skipped_none t n = let z : n - 0 ≡ n = omega arith in rw z refl

module _ (t rest : List ℕ) (n k : ℕ) (g : Skipped t n k rest) where
  pub skipped_on : k < n → Skipped t n (k + 1) (drop (before 10 rest + 1) rest)
  unfolding skip
  skipped_on h = let w : n - k ≡ suc (n - (k + 1)) = omega arith in g ∙ rw (w, behind_first 10 rest) refl

  pub skipped_all : n ≤ k → rest ≡ skip n t
  unfolding skip
  skipped_all h = let w : n - k ≡ 0 = omega arith in sym (rw w at g)
