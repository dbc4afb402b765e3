-- The rows that have the energy for a job, (w - e) / g + 1, without a division: by w and e raised to multiples of g, which are no less
-- apart than a step for each row between them.
-- Assumes nothing.
use mathlib.Core.Path.{◌≡◌, ap}
use Prim.Native.Nat.{ℕ, ◌+◌, ◌*◌, ◌-◌, ◌/◌, ◌≤◌, ◌<◌}
use native.Mathlib.Nat.{add-mul, zero-mul, div-eq_of_lt-le}
use native.Mathlib.Decide.{dec_lt}
use native.Mathlib.Omega.{arith}
use Rattle.thermal.specs.Rounding.{ceil_div, raise}
use Rattle.thermal.proofs.Rounding.{ceil_mono, raise_ge, raise_le}

-- Raising adds less than a step.
raised_by : (g x n : ℕ) → 0 < g → n ≡ ceil_div x g → (x ≤ n * g) × (n * g < x + g)
unfolding raise
raised_by g x n h z = rw z (raise_ge g x h, omega (arith, raise_le g x))

module _ (w e g last up : ℕ) (some : 0 < g) (h : e ≤ w) (l : last ≡ ceil_div w g) (u : up ≡ ceil_div e g) where
  -- Both lie less than a step below their multiples, and these are no less apart than a step for each cell between them.
  pub multiples : (up ≤ last) × (w ≤ last * g) × (last * g < w + g) × (e ≤ up * g) × (up * g < e + g) × (last * g ≡ up * g + (last - up) * g)
  multiples =
      let top = raised_by g w last some l in
      let low = raised_by g e up some u in
      let m : up ≤ last = omega (arith, l, u, ceil_mono e w g some h) in
      let z : last ≡ up + (last - up) = omega (arith, m) in
      (m, top.0, top.1, low.0, low.1, omega (arith, ap (λ (v : ℕ). v * g) z, add-mul up (last - up) g))

  pub rows_all : last * g - w ≤ up * g - e → last - up + 1 ≡ (w - e) / g + 1
  rows_all r =
      let k : (w - e) / g ≡ last - up = div-eq_of_lt-le g (omega (arith, multiples)) (omega (arith, multiples, add-mul (last - up) 1 g)) in
      omega (arith, k)

  pub rows_less : up * g - e < last * g - w → last - up ≡ (w - e) / g + 1
  rows_less r =
      elim (dec_lt up last) [
        | yes m ↦
            let d = last - up - 1 in
            let z : last - up ≡ d + 1 = omega arith in
            let y : (last - up) * g ≡ d * g + g = omega (arith, ap (λ (v : ℕ). v * g) z, add-mul d 1 g) in
            let k : (w - e) / g ≡ d = div-eq_of_lt-le g (omega (arith, multiples, y)) (omega (arith, multiples, y, add-mul d 1 g)) in
            omega (arith, k, z)
        | no m ↦ let z : last - up ≡ 0 = omega arith in absurd (omega (arith, multiples, ap (λ (v : ℕ). v * g) z, zero-mul g))
      ]
