-- A quotient by a multiplier: n / h is the upper half of n times 2 ^ 32 / h rounded up, as that is less than one n-th too much.
-- Assumes nothing.
use mathlib.Core.Path.{◌≡◌, ap, ◌∙◌}
use Prim.Native.Nat.{ℕ, ◌+◌, ◌*◌, ◌-◌, ◌/◌, ◌≤◌, ◌<◌}
use native.Mathlib.Nat.{add-mul, mul-add, mul_assoc, mul_comm, mul-le-mul_left, mul-le-mul_right, lt-div-mul-add, div-mul-le_self, le-div_iff_mul-le, div-eq_of_lt-le}
use native.Mathlib.Omega.{arith}
use Rattle.frame.specs.Sheet.{temperature_max}
use Rattle.next_cells.specs.Next.{scale, multiplier_of}

module _ (n h : ℕ) (some : 0 < h) (small : h ≤ temperature_max) (few : n ≤ 100000) where
  abbrev m : ℕ
  m = multiplier_of h

  -- The multiplier times h is 2 ^ 32 and less than h more.
  over : (scale ≤ m * h) × (m * h < scale + h) × (214748 ≤ 4294967295 / h)
  over =
      let q = 4294967295 / h in
      let low : 4294967295 < q * h + h = lt-div-mul-add some in
      let high : q * h ≤ 4294967295 = div-mul-le_self 4294967295 h in
      (omega (arith, low, add-mul q 1 h), omega (arith, high, add-mul q 1 h), (le-div_iff_mul-le some).1 (omega arith))

  pub multiplied : n * m / scale ≡ n / h
  multiplied =
      let a = n / h in
      let e = m * h - scale in
      let by : h * m ≡ scale + e = mul_comm h m ∙ omega (arith, over) in
      let times : (k : ℕ) → k * h * m ≡ k * scale + k * e = λ k. mul_assoc k h m ∙ ap (λ (v : ℕ). k * v) by ∙ mul-add k scale e in
      let low : a * h ≤ n = div-mul-le_self n h in
      let top : n + 1 ≤ (a + 1) * h = omega (arith, lt-div-mul-add {a = n} some, add-mul a 1 h) in
      let rest : e ≤ h = omega (arith, over) in
      let less : (a + 1) * e < m = omega (arith, mul-le-mul_left (a + 1) rest, add-mul a 1 h, low, over) in
      div-eq_of_lt-le scale (omega (arith, mul-le-mul_right m low, times a)) (omega (arith, mul-le-mul_right m top, times (a + 1), add-mul n 1 m, less))
