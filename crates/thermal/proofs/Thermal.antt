-- Laws of the thermal rule. What lies above this crate knows the rule by these alone; the worked cases compute with its text.
-- Assumes nothing.
use mathlib.Core.Path.{◌≡◌}
use Prim.Native.Nat.{ℕ, ◌+◌, ◌*◌, ◌-◌, ◌≤◌, max}
use native.Mathlib.Nat.{mul-le-mul_left, mul-le-mul_right, le-max_left, le-max_right}
use native.Mathlib.Omega.{arith}
use Rattle.thermal.specs.Rounding.{ceil_div}
use Rattle.thermal.specs.Thermal.{temperature_after, RuleDomain, raised_temperature_max, rule_sum_max}

-- Monotone in the temperature.
pub rule_mono : (t u s d : ℕ) → t ≤ u → temperature_after t s d ≤ temperature_after u s d
unfolding temperature_after ceil_div
rule_mono t u s d h = omega (arith, mul-le-mul_left d h)

-- Slack: k warmer before is at most k warmer after.
pub rule_slack : (t k s d : ℕ) → d ≤ 65536 → temperature_after (t + k) s d ≤ temperature_after t s d + k
unfolding temperature_after ceil_div
rule_slack t k s d h = omega (arith, mul-le-mul_right k h)

-- The two weights make 65,536.
weights : (d : ℕ) → d ≤ 65536 → d + (65536 - d) ≤ 65536
weights d h = omega arith

-- Never above the larger of the temperature and the steady-state temperature.
pub rule_max : (t s d : ℕ) → d ≤ 65536 → temperature_after t s d ≤ max t s
unfolding temperature_after ceil_div
rule_max t s d h =
    omega (
      arith,
      mul-le-mul_left d (le-max_left t s),
      mul-le-mul_left (65536 - d) (le-max_right t s),
      mul-le-mul_right (max t s) (weights d h),
    )

-- Decay 65,536 keeps the temperature.
pub rule_keeps : (t s : ℕ) → temperature_after t s 65536 ≡ t
unfolding temperature_after ceil_div
rule_keeps t s = omega arith

-- What a planner may know of a rule of temperature: it is monotone, and it adds no slack (it is nonexpansive).
pub record Nonexpansive (f : ℕ → ℕ) : Type 0 where
  pub mono : (t u : ℕ) → t ≤ u → f t ≤ f u
  pub slack : (t k : ℕ) → f (t + k) ≤ f t + k

pub rule_nonexpansive : (s d : ℕ) → d ≤ 65536 → Nonexpansive (λ t. temperature_after t s d)
rule_nonexpansive s d h = record { mono = λ t u l. rule_mono t u s d l; slack = λ t k. rule_slack t k s d h }

-- The rule as a function takes the largest figures that document 01 names.
pub rule_domain : RuleDomain raised_temperature_max 20000 65536
rule_domain = omega arith

-- No figures that it may rest on make a larger sum, 65,535 for rounding up included, and the largest of them make this one.
pub rule_sum : (t s d : ℕ) → RuleDomain t s d → d * t + (65536 - d) * s + 65535 ≤ rule_sum_max
rule_sum t s d h =
    omega (
      arith,
      mul-le-mul_left d h.temperature_most,
      mul-le-mul_left (65536 - d) h.steady_most,
      mul-le-mul_right raised_temperature_max (weights d h.decay_most),
    )

pub rule_sum_reached : 65536 * raised_temperature_max + (65536 - 65536) * 20000 + 65535 ≡ rule_sum_max
rule_sum_reached = omega arith
