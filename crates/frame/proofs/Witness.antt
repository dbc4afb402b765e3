-- The printed sheet keeps its ranges, and so do the sheets at both ends of every range: the theorems that ask for ranges speak
-- of all of them.
-- Assumes nothing.
use mathlib.Core.Path.{◌≡◌, refl, ap}
use mathlib.Core.List.{List, [], ◌∷◌}
use mathlib.Core.Bool.{Bool, true, false, cond}
use Prim.Native.Nat.{ℕ, zero, suc, ◌+◌, ◌*◌, ◌≤◌, ◌<◌}
use native.Mathlib.Omega.{arith}
use lib.Dec.{leb}
use borrow.Author.Tests.{le-leb}
use lib.ListN.{get_or, get_or-eq_default}
use Rattle.thermal.specs.Thermal.{steady_state}
use Rattle.thermal.proofs.Steady.{steady_within}
use Rattle.frame.specs.Sheet.{Sheet, Ranges, steady_of}
use Rattle.frame.specs.Cases.{entry, printed_l, printed_s, printed_b, sheet}

-- Every number of a list is at most hi, and so is what is read at any place.
abbrev Most : ℕ → List ℕ → Type 0
Most hi [] = Unit
Most hi (x ∷ xs) = (x ≤ hi) × Most hi xs

get_d_most : (hi : ℕ) (xs : List ℕ) (i : ℕ) → Most hi xs → get_or xs i 0 ≤ hi
get_d_most hi [] i h = omega arith
get_d_most hi (x ∷ xs) zero h = h.0
get_d_most hi (x ∷ xs) (suc i) h = get_d_most hi xs i h.1

-- The same of column j of a list of rows.
abbrev Column : ℕ → ℕ → List (List ℕ) → Type 0
Column hi j [] = Unit
Column hi j (r ∷ rs) = (get_or r j 0 ≤ hi) × Column hi j rs

entry_most : (hi j : ℕ) (rows : List (List ℕ)) (i : ℕ) → Column hi j rows → entry rows i j ≤ hi
entry_most hi j [] i h = omega arith
entry_most hi j (r ∷ rs) zero h = h.0
entry_most hi j (r ∷ rs) (suc i) h = entry_most hi j rs i h.1

abbrev printed : Sheet
printed = sheet 50 100 2500 10 100

steady_most : (j : ℕ) → steady_of printed j ≤ 20000
steady_most j = steady_within (printed.power j) 2000 20000 (omega (arith, get_d_most 20000 printed_l j (omega arith)))

stay : (p : ℕ) → (printed.change_time p p ≡ 0) × (printed.change_energy p p ≡ 0)
stay zero = (refl, refl)
stay (suc zero) = (refl, refl)
stay (suc (suc p)) =
    let q = get_or-eq_default printed_s [] {n = suc (suc p) * 2 + suc (suc p)} (omega arith) in
    (ap (λ (r : List ℕ). get_or r 0 0) q, ap (λ (r : List ℕ). get_or r 1 0) q)

time_least : (i j : ℕ) → i < 2 → j < 2 → 1 ≤ printed.job_time i j
time_least zero zero h k = omega arith
time_least zero (suc zero) h k = omega arith
time_least zero (suc (suc j)) h k = absurd (omega arith)
time_least (suc zero) zero h k = omega arith
time_least (suc zero) (suc zero) h k = omega arith
time_least (suc zero) (suc (suc j)) h k = absurd (omega arith)
time_least (suc (suc i)) j h k = absurd (omega arith)

pub printed_ranges : Ranges printed
printed_ranges =
    record {
      jobs = omega arith;
      levels = omega arith;
      start_level = omega arith;
      deadline = omega arith;
      energy_budget = omega arith;
      temperature_limit = omega arith;
      start_temperature = omega arith;
      resistance = omega arith;
      energy_step = omega arith;
      temperature_step = omega arith;
      power = λ j. get_d_most 100000 printed_l j (omega arith);
      steady = steady_most;
      change_time = λ p j. entry_most 10000000 0 printed_s (p * 2 + j) (omega arith);
      change_energy = λ p j. entry_most 10000000 1 printed_s (p * 2 + j) (omega arith);
      stay = stay;
      job_time = λ i j. entry_most 10000000 0 printed_b (i * 2 + j) (omega arith);
      job_time_least = time_least;
      job_energy = λ i j. entry_most 10000000 1 printed_b (i * 2 + j) (omega arith);
      decay = λ i j. entry_most 65536 2 printed_b (i * 2 + j) (omega arith);
      cool = omega arith;
    }

-- The dearest changes: free from a level to itself, and 10,000,000 else.
abbrev fee : ℕ → ℕ → ℕ
fee p j = cond (leb p j) (cond (leb j p) 0 10000000) 10000000

-- Every figure at its upper end, with any power and resistance.
abbrev pub top : ℕ → ℕ → Sheet
top P R =
    record {
      jobs = 64;
      levels = 8;
      start_level = 7;
      deadline = 2000000000;
      energy_budget = 2000000000;
      temperature_limit = 20000;
      start_temperature = 20000;
      resistance = R;
      energy_step = 2000000000;
      temperature_step = 20000;
      power = λ j. P;
      change_time = fee;
      change_energy = fee;
      job_time = λ i j. 10000000;
      job_energy = λ i j. 10000000;
      decay = λ i j. 65536;
    }

free : (p : ℕ) → fee p p ≡ 0
free p = rw (le-leb p p (omega arith)) refl

fee_most_by : (b c : Bool) → cond b (cond c 0 10000000) 10000000 ≤ 10000000
fee_most_by true true = omega arith
fee_most_by true false = omega arith
fee_most_by false c = omega arith

fee_most : (p j : ℕ) → fee p j ≤ 10000000
fee_most p j = fee_most_by (leb p j) (leb j p)

pub top_ranges : (P R : ℕ) → P ≤ 100000 → R ≤ 20000 → steady_state P R ≤ 20000 → Ranges (top P R)
top_ranges P R p r q =
    record {
      jobs = omega arith;
      levels = omega arith;
      start_level = omega arith;
      deadline = omega arith;
      energy_budget = omega arith;
      temperature_limit = omega arith;
      start_temperature = omega arith;
      resistance = r;
      energy_step = omega arith;
      temperature_step = omega arith;
      power = λ j. p;
      steady = λ j. q;
      change_time = λ a b. fee_most a b;
      change_energy = λ a b. fee_most a b;
      stay = λ a. (free a, free a);
      job_time = λ i j. omega arith;
      job_time_least = λ i j h k. omega arith;
      job_energy = λ i j. omega arith;
      decay = λ i j. omega arith;
      cool = omega arith;
    }

-- Every figure at its lower end.
abbrev pub bottom : Sheet
bottom =
    record {
      jobs = 1;
      levels = 1;
      start_level = 0;
      deadline = 0;
      energy_budget = 0;
      temperature_limit = 0;
      start_temperature = 0;
      resistance = 0;
      energy_step = 1;
      temperature_step = 1;
      power = λ j. 0;
      change_time = λ p j. 0;
      change_energy = λ p j. 0;
      job_time = λ i j. 1;
      job_energy = λ i j. 0;
      decay = λ i j. 0;
    }

pub bottom_ranges : Ranges bottom
bottom_ranges =
    record {
      jobs = omega arith;
      levels = omega arith;
      start_level = omega arith;
      deadline = omega arith;
      energy_budget = omega arith;
      temperature_limit = omega arith;
      start_temperature = omega arith;
      resistance = omega arith;
      energy_step = omega arith;
      temperature_step = omega arith;
      power = λ j. omega arith;
      steady = λ j. steady_within 0 0 20000 (omega arith);
      change_time = λ a b. omega arith;
      change_energy = λ a b. omega arith;
      stay = λ a. (refl, refl);
      job_time = λ i j. omega arith;
      job_time_least = λ i j h k. omega arith;
      job_energy = λ i j. omega arith;
      decay = λ i j. omega arith;
      cool = omega arith;
    }
