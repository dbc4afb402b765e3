-- The words that a sheet needs, by what was read of it.
-- Assumes nothing.
use mathlib.Core.Path.{◌≡◌, refl, sym}
use mathlib.Core.List.{List}
use Prim.Native.Nat.{ℕ}
use Rattle.std.specs.Prelude.{Result, Ok, Err}
use Rattle.frame.specs.Table.{need}
use Rattle.store.specs.declared.Store.{Store}
use Rattle.store.specs.declared.Head.{Head}
use Rattle.store.specs.Figures.{sheet_of}
use Rattle.refusal.specs.declared.Refusal.{Refusal}
use Rattle.sheet.specs.Reading.{read_in, reading_of}
use Rattle.need.specs.Need.{words_of}

module _ (t : List ℕ) (r : Result Head Refusal) (st : Store) (e : read_in r st ≡ reading_of t) where
  pub words_refused : (f : Refusal) → r ≡ Err f → Err f ≡ words_of t
  unfolding words_of
  words_refused f h = rw (sym e, h) refl

  pub words_counted : (h : Head) → r ≡ Ok h → (n : ℕ) → n ≡ need (sheet_of h st) → Ok n ≡ words_of t
  unfolding words_of
  words_counted h m n k = rw (sym e, m, k) refl
