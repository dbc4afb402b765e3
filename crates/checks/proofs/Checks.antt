-- What holds of a check's refusal, by the cases in which it is given.
-- Assumes nothing.
use mathlib.Core.Path.{◌≡◌, refl, sym}
use Rattle.std.specs.Prelude.{Option, Some, None}
use Rattle.std.proofs.lemmas.Option.{none-some}
use Rattle.refusal.specs.declared.Refusal.{Refusal}
use Rattle.refusal.specs.declared.Refusal.TheVariants.{TableTooLarge, TableShort, PartShort, AllDone, ReadingRange, ReadingHot}
use mathlib.Core.Bool.{cond}
use Prim.Native.Nat.{ℕ, ◌≤◌, ◌<◌}
use native.Mathlib.Omega.{arith}
use lib.Dec.{leb, ltb}
use borrow.Author.Tests.{leb-true, leb-false, ltb-true, ltb-false}
use Rattle.frame.specs.Sheet.{Sheet, limit_max, temperature_max}
use Rattle.frame.specs.Run.{State}
use Rattle.frame.specs.Afresh.{InRange, Readable}
use Rattle.frame.specs.Table.{words_max}
use Rattle.fields.proofs.Within.{cond_cases}
use Rattle.checks.specs.Checks.{lack_of, fault_of}

module _ (P : Option Refusal → Type 0) where
  below : (x y : ℕ) (a b : Option Refusal) → (x < y → P a) → (y ≤ x → P b) → P (cond (ltb x y) a b)
  below x y a b f g = cond_cases P (ltb x y) a b (λ e. f (ltb-true x y e)) (λ e. g (ltb-false x y e))

  at_most : (x y : ℕ) (a b : Option Refusal) → (x ≤ y → P a) → (y < x → P b) → P (cond (leb x y) a b)
  at_most x y a b f g = cond_cases P (leb x y) a b (λ e. f (leb-true x y e)) (λ e. g (leb-false x y e))

  pub lack_cases : (need n words bytes : ℕ) → (words_max < need → P (Some TableTooLarge)) → (need ≤ words_max → words < need → P (Some TableShort)) →
      (need ≤ words_max → need ≤ words → bytes < n → P (Some PartShort)) → (need ≤ words_max → need ≤ words → n ≤ bytes → P None) → P (lack_of need n words bytes)
  unfolding lack_of
  lack_cases need n words bytes seven eight nine none =
      below words_max need _ _ seven (λ a. below words need _ _ (eight a) (λ b. below bytes n _ _ (nine a b) (none a b)))

  pub fault_cases : (s : Sheet) (a : State) → (s.jobs ≤ a.done → P (Some AllDone)) → (a.done < s.jobs → ¬ InRange s a → P (Some ReadingRange)) →
      (a.done < s.jobs → InRange s a → s.temperature_limit < a.temperature → P (Some ReadingHot)) →
      (a.done < s.jobs → InRange s a → a.temperature ≤ s.temperature_limit → P None) → P (fault_of s a)
  unfolding fault_of
  fault_cases s a done range hot none =
      at_most s.jobs a.done _ _ done (λ d.
      at_most s.levels a.level _ _ (λ l. range d (λ r. omega (arith, r.level))) (λ l.
      below limit_max a.time _ _ (λ t. range d (λ r. omega (arith, r.time))) (λ t.
      below limit_max a.energy _ _ (λ e. range d (λ r. omega (arith, r.energy))) (λ e.
      below temperature_max a.temperature _ _ (λ c. range d (λ r. omega (arith, r.temperature))) (λ c.
      below s.temperature_limit a.temperature _ _ (hot d (omega arith)) (none d (omega arith)))))))

-- ---- nothing is refused

pub fault_none : (s : Sheet) (a : State) → Readable s a → None ≡ fault_of s a
fault_none s a r =
    fault_cases (λ x. None ≡ x) s a (λ d. absurd (omega (arith, r.done))) (λ d u. absurd (u r.range)) (λ d u h. absurd (omega (arith, r.temperature))) (λ d u h. refl)

pub lack_none : (need n words bytes : ℕ) → lack_of need n words bytes ≡ None → (need ≤ words_max) × (need ≤ words) × (n ≤ bytes)
lack_none need n words bytes =
    lack_cases (λ c. c ≡ None → (need ≤ words_max) × (need ≤ words) × (n ≤ bytes)) need n words bytes
    (λ a e. absurd (none-some _ (sym e))) (λ a b e. absurd (none-some _ (sym e))) (λ a b c e. absurd (none-some _ (sym e))) (λ a b c e. (a, b, c))

pub fault_passed : (s : Sheet) (a : State) → fault_of s a ≡ None → Readable s a
fault_passed s a =
    fault_cases (λ c. c ≡ None → Readable s a) s a
    (λ d e. absurd (none-some _ (sym e))) (λ d r e. absurd (none-some _ (sym e))) (λ d r h e. absurd (none-some _ (sym e))) (λ d r h e. record { done = d; range = r; temperature = h })
