-- The thermal model of document 01: how warm a voltage level gets in the end, and how far a job brings the temperature there.
--
-- Temperatures are hundredths of a kelvin above the rock temperature at the logger, powers milliwatts, the thermal
-- resistance millikelvins per watt, a decay a whole number out of 65,536. TCEC, equation (6), has the same rule in real
-- numbers: T(i) = (1 - β) T_s + β T(i - 1), with β the decay and T_s the steady-state temperature of the level.
-- Assumes nothing.
use Rattle.std.specs.Prelude.{◌≡◌, cond, ◌≢◌, ℕ, ◌+◌, ◌*◌, ◌-◌, ◌/◌, ◌%◌, ◌≤◌, eqb}
use Rattle.thermal.specs.Rounding.{ceil_div}

-- The steady-state temperature of a level (document 01: steady rise): "P × R / 10,000 to the nearest whole number"; document 02,
-- W2: one "that falls on an exact half goes to the even neighbour".
unfoldable pub steady_state : ℕ → ℕ → ℕ
steady_state power resistance =
    let product : ℕ = power * resistance in
    let lower : ℕ = product / 10000 in
    cond (eqb (product % 10000) 5000) (lower + lower % 2) ((product + 5000) / 10000)

-- How far a whole number is from product / 10,000, in ten-thousandths. Subtraction stops at 0, so one of the differences is 0.
abbrev pub distance : ℕ → ℕ → ℕ
distance product number = (product - 10000 * number) + (10000 * number - product)

-- The steady-state temperature in words: no whole number is nearer to product / 10,000; of two as near, it is the even one.
pub record NearestEven (product nearest : ℕ) : Type 0 where
  pub none_nearer : (number : ℕ) → distance product nearest ≤ distance product number
  pub even : (number : ℕ) → number ≢ nearest → distance product number ≡ distance product nearest → nearest % 2 ≡ 0

-- The temperature after a job (document 01: the thermal rule): "Its temperature T becomes
-- (decay × T + (65,536 − decay) × steady rise) / 65,536, rounded up".
unfoldable pub temperature_after : ℕ → ℕ → ℕ → ℕ
temperature_after temperature steady decay = ceil_div (decay * temperature + (65536 - decay) * steady) 65536

-- The warmest raised temperature: "it may rest on T at most 39,998".
abbrev pub raised_temperature_max : ℕ
raised_temperature_max = 39998

-- The largest sum that the rule divides (document 02, W3: "its largest sum, from a raised temperature of 39,998, is 2,621,374,463").
abbrev pub rule_sum_max : ℕ
rule_sum_max = 2621374463

-- What the rule, "an inner call", "may rest on".
pub record RuleDomain (temperature steady decay : ℕ) : Type 0 where
  pub temperature_most : temperature ≤ raised_temperature_max
  pub steady_most : steady ≤ 20000
  pub decay_most : decay ≤ 65536
