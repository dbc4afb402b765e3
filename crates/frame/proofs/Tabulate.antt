-- Lists that are tabulated: their length, what stands at a place, and that nothing else stands for them.
-- Assumes nothing.
use mathlib.Core.Path.{◌≡◌, refl, sym, ap, ◌∙◌}
use mathlib.Core.List.{List}
use Prim.Native.Nat.{ℕ, zero, suc, ◌+◌, ◌<◌}
use native.Mathlib.Nat.{add-suc, suc-add, add-zero}
use native.Mathlib.Omega.{arith}
use lib.ListN.{get_or, length}
use lib.Seq.{ext_get_or}
use Rattle.frame.specs.Table.{tabulate}

pub length_tabulate : (f : ℕ → ℕ) (k n : ℕ) → length (tabulate f k n) ≡ n
unfolding tabulate
length_tabulate f k zero = refl
length_tabulate f k (suc n) = ap suc (length_tabulate f (suc k) n)

pub get_d_tabulate : (f : ℕ → ℕ) (k n i : ℕ) → i < n → get_or (tabulate f k n) i 0 ≡ f (k + i)
unfolding tabulate
get_d_tabulate f k zero i h = absurd (omega arith)
get_d_tabulate f k (suc n) zero h = ap f (sym (add-zero k))
get_d_tabulate f k (suc n) (suc i) h = get_d_tabulate f (suc k) n i (omega arith) ∙ ap f (suc-add k i ∙ sym (add-suc k i))

pub tabulated : (f : ℕ → ℕ) (n : ℕ) (l : List ℕ) → length l ≡ n → ((i : ℕ) → i < n → get_or l i 0 ≡ f i) → l ≡ tabulate f 0 n
tabulated f n l e h =
    ext_get_or 0 l _ (e ∙ sym (length_tabulate f 0 n))
    (λ i k.
    let z : 0 + i ≡ i = omega arith in
    let m : i < n = omega arith in
    h i m ∙ ap f (sym z) ∙ sym (get_d_tabulate f 0 n i m))
