-- What follows a test, by whether it refuses.
-- Assumes nothing.
use mathlib.Core.Path.{◌≡◌, refl, sym}
use Prim.Native.Nat.{◌≤◌}
use native.Mathlib.Omega.{arith}
use Rattle.std.specs.Prelude.{Option, Some, None, Result, Ok, Err}
use Rattle.std.specs.Result.{result_err}
use Rattle.refusal.specs.declared.Refusal.{Refusal}
use Rattle.refusal.specs.declared.Refusal.TheVariants.{TooLong, Line, Form, Range, Hot, Trailing, TableTooLarge, TableShort, PartShort, NoPlan, ListLength, LevelTooHigh, AllDone, ReadingRange, ReadingHot}
use Rattle.refusal.specs.Code.{number_of, accepted}

-- What holds of both: of what is made of the refusal, and of what comes next.
pub accepted_ways : {X : Type 0} (P : X → Type 0) (o : Option Refusal) (away : Refusal → X) (go : X) → ((f : Refusal) → o ≡ Some f → P (away f)) → (o ≡ None → P go) → P (accepted o away go)
accepted_ways P None away go a h = h refl
accepted_ways P (Some f) away go a h = a f refl

pub accepted_refused : {X : Type 0} {o : Option Refusal} {f : Refusal} (away : Refusal → X) (go : X) → o ≡ Some f → accepted o away go ≡ away f
accepted_refused away go e = rw e refl

-- ---- the numbers

-- They are those from 1 to 14.
pub number_bounds : (f : Refusal) → (1 ≤ number_of f) × (number_of f ≤ 14)
number_bounds TooLong = omega arith
number_bounds (Line line) = omega arith
number_bounds (Form line field) = omega arith
number_bounds (Range line field) = omega arith
number_bounds Hot = omega arith
number_bounds (Trailing line) = omega arith
number_bounds TableTooLarge = omega arith
number_bounds TableShort = omega arith
number_bounds PartShort = omega arith
number_bounds NoPlan = omega arith
number_bounds ListLength = omega arith
number_bounds (LevelTooHigh place) = omega arith
number_bounds AllDone = omega arith
number_bounds ReadingRange = omega arith
number_bounds ReadingHot = omega arith

-- ---- what a call hands back

-- What its clause says of the refusal that it gives, and of none.
pub failed : {X : Type 0} {r : Result X Refusal} {o : Option Refusal} {f : Refusal} → result_err r ≡ o → r ≡ Err f → o ≡ Some f
failed e h = rw h at (sym e)

pub passed : {X : Type 0} {r : Result X Refusal} {o : Option Refusal} {x : X} → result_err r ≡ o → r ≡ Ok x → o ≡ None
passed e h = rw h at (sym e)

-- No other refusal is told by the number of "no plan".
pub ten_only : (f : Refusal) → number_of f ≡ 10 → f ≡ NoPlan
ten_only NoPlan e = refl
ten_only TooLong e = absurd (omega (arith, e))
ten_only (Line line) e = absurd (omega (arith, e))
ten_only (Form line field) e = absurd (omega (arith, e))
ten_only (Range line field) e = absurd (omega (arith, e))
ten_only Hot e = absurd (omega (arith, e))
ten_only (Trailing line) e = absurd (omega (arith, e))
ten_only TableTooLarge e = absurd (omega (arith, e))
ten_only TableShort e = absurd (omega (arith, e))
ten_only PartShort e = absurd (omega (arith, e))
ten_only ListLength e = absurd (omega (arith, e))
ten_only (LevelTooHigh place) e = absurd (omega (arith, e))
ten_only AllDone e = absurd (omega (arith, e))
ten_only ReadingRange e = absurd (omega (arith, e))
ten_only ReadingHot e = absurd (omega (arith, e))
