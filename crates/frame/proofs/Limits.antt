-- Laws of signed limits.
-- Assumes nothing.
use mathlib.Core.Logic.{◌↔◌}
use Prim.Native.Nat.{ℕ, ◌+◌, ◌≤◌, max}
use native.Mathlib.Decide.{dec_lt}
use native.Mathlib.Omega.{arith}
use lib.IntN.{ℤ, pos, negsuc, sub_ℕ}
use borrow.Author.Tests.{lt-ltb, le-ltb}
use Rattle.frame.specs.Limits.{Limits, AtMost}

pub at_most_less : (x y : ℕ) (z : ℤ) → x ≤ y → AtMost y z → AtMost x z
at_most_less x y (pos n) h k = omega arith
at_most_less x y (negsuc n) h k = omega arith

pub at_most_max : (x y : ℕ) (z : ℤ) → AtMost (max x y) z ↔ (AtMost x z × AtMost y z)
at_most_max x y (pos n) = ((λ h. omega arith), (λ h. omega arith))
at_most_max x y (negsuc n) = ((λ h. omega arith), (λ h. omega arith))

-- A difference of two naturals as a limit: what it is less stands on the other side.
pub at_most_sub : (x a b : ℕ) → AtMost x (sub_ℕ a b) ↔ (x + b ≤ a)
at_most_sub x a b =
    elim (dec_lt a b) [
      | yes l ↦ rw (lt-ltb a b l) ((λ h. omega arith), (λ h. omega arith))
      | no l ↦ rw (le-ltb a b (omega arith)) ((λ h. omega arith), (λ h. omega arith))
    ]

-- The limits k, less e energy and t temperature, hold of whatever meets k'.
pub record Tighter (e t : ℕ) (k k' : Limits) : Type 0 where
  pub time : (x : ℕ) → AtMost x k'.time → AtMost x k.time
  pub energy : (x : ℕ) → AtMost x k'.energy → AtMost (x + e) k.energy
  pub temperature : (x : ℕ) → AtMost x k'.temperature → AtMost (x + t) k.temperature

pub tighter_same : (k : Limits) → Tighter 0 0 k k
tighter_same k =
    record {
      time = λ x m. m;
      energy = λ x m. at_most_less (x + 0) x k.energy (omega arith) m;
      temperature = λ x m. at_most_less (x + 0) x k.temperature (omega arith) m;
    }

pub tighter_less : (e e' t t' : ℕ) (k k' : Limits) → e ≤ e' → t ≤ t' → Tighter e' t' k k' → Tighter e t k k'
tighter_less e e' t t' k k' h l c =
    record {
      time = c.time;
      energy = λ x m. at_most_less (x + e) (x + e') k.energy (omega arith) (c.energy x m);
      temperature = λ x m. at_most_less (x + t) (x + t') k.temperature (omega arith) (c.temperature x m);
    }
