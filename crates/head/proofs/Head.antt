-- Laws of the H line: what each test of the reader says of it, and that its figures lie in their ranges.
-- Assumes nothing.
use mathlib.Core.Path.{◌≡◌, refl}
use mathlib.Core.Bool.{true, false}
use mathlib.Core.List.{List, [], ◌∷◌}
use Prim.Native.Nat.{ℕ, ◌-◌, ◌≤◌, ◌<◌}
use native.Mathlib.Omega.{arith}
use lib.ListN.{get_or, drop}
use Rattle.std.specs.Prelude.{Ok, Err}
use Rattle.text.specs.Text.{beyond}
use Rattle.fields.specs.Fields.{Fields, opens, from_to, numbers_from, fields_of}
use Rattle.fields.specs.declared.Fault.{Fault}
use Rattle.fields.specs.declared.Fault.TheVariants.{Shape}
use Rattle.fields.proofs.Fields.{opens_beyond, range_at}
use Rattle.fields.proofs.Faults.{FieldLe, numbers_field, fields_field, after_field}
use Rattle.fields.proofs.Within.{numbers_held, held_at, cond_cases}
use Rattle.fields.proofs.After.{after_ok, cond_ok}
use Rattle.store.specs.declared.Head.{Head}
use Rattle.frame.specs.Sheet.{jobs_max, levels_max, limit_max, temperature_max, resistance_max}
use Rattle.head.specs.Head.{head_as, count_ranges, other_ranges, others_of, version_fields, head_fields}

-- ---- the H line

module _ (version : ℕ) (line : List ℕ) where
  pub head_shape : opens 72 10 line ≡ false → Err Shape ≡ head_fields version line
  unfolding head_fields
  head_shape e = rw e refl

  module _ (e : opens 72 10 line ≡ true) where
    pub counts_fault : (f : Fault) → numbers_from count_ranges 0 (drop 2 line) ≡ Err f → Err f ≡ head_fields version line
    unfolding head_fields
    counts_fault f q = rw (e, opens_beyond 72 10 line e, q) refl

    module _ (counts : Fields) (q : numbers_from count_ranges 0 (drop 2 line) ≡ Ok counts) (top : ℕ) (t : top ≡ get_or counts.values 1 0 - 1) where
      pub others_fault : (f : Fault) → numbers_from (other_ranges top) 2 counts.rest ≡ Err f → Err f ≡ head_fields version line
      unfolding head_fields others_of
      others_fault f p = rw (e, opens_beyond 72 10 line e, q, ← t, p) refl

      pub head_whole : (others : Fields) → numbers_from (other_ranges top) 2 counts.rest ≡ Ok others →
          Ok (head_as version counts.values others.values) ≡ head_fields version line
      unfolding head_fields others_of
      head_whole others p = rw (e, opens_beyond 72 10 line e, q, ← t, p) refl

-- ---- the figures of a sound H line lie in their ranges

-- The figures of a head.
pub record InRange (head : Head) : Type 0 where
  pub jobs : (1 ≤ head.jobs) × (head.jobs ≤ jobs_max)
  pub levels : (1 ≤ head.levels) × (head.levels ≤ levels_max)
  pub start_level : head.start_level ≤ head.levels - 1
  pub deadline : head.deadline ≤ limit_max
  pub energy_budget : head.energy_budget ≤ limit_max
  pub temperature_limit : head.temperature_limit ≤ temperature_max
  pub start_temperature : head.start_temperature ≤ temperature_max
  pub resistance : head.resistance ≤ resistance_max
  pub energy_step : (1 ≤ head.energy_step) × (head.energy_step ≤ limit_max)
  pub temperature_step : (1 ≤ head.temperature_step) × (head.temperature_step ≤ temperature_max)

pub head_held : (version : ℕ) (line : List ℕ) (head : Head) → head_fields version line ≡ Ok head → InRange head
unfolding head_fields others_of
head_held version line head e =
    let a = cond_ok (opens 72 10 line) _ _ head e in
    let b = after_ok (numbers_from count_ranges 0 (beyond 9 line)) _ head a.1 in
    let top = get_or b.0.values 1 0 - 1 in
    let d = after_ok (numbers_from (other_ranges top) 2 b.0.rest) _ head b.2 in
    let few = numbers_held count_ranges 0 (beyond 9 line) b.0 b.1 in
    let others = numbers_held (other_ranges top) 2 b.0.rest d.0 d.1 in
    let at : (i : ℕ) → i < 8 → ((range_at (other_ranges top) i).least ≤ get_or d.0.values i 0) × (get_or d.0.values i 0 ≤ (range_at (other_ranges top) i).most) =
    λ i h. held_at (other_ranges top) d.0.values i others h in
    let named : head ≡ head_as version b.0.values d.0.values = cc in
    rw named
    (record {
      jobs = held_at count_ranges b.0.values 0 few (omega arith);
      levels = held_at count_ranges b.0.values 1 few (omega arith);
      start_level = (at 0 (omega arith)).1;
      deadline = (at 1 (omega arith)).1;
      energy_budget = (at 2 (omega arith)).1;
      temperature_limit = (at 3 (omega arith)).1;
      start_temperature = (at 4 (omega arith)).1;
      resistance = (at 5 (omega arith)).1;
      energy_step = at 6 (omega arith);
      temperature_step = at 7 (omega arith);
    })

-- The field of a fault.
pub head_field : (version : ℕ) (line : List ℕ) → FieldLe (head_fields version line)
unfolding head_fields others_of
head_field version line =
    cond_cases FieldLe (opens 72 10 line) _ _
    (λ a. after_field (numbers_from count_ranges 0 (beyond 9 line)) _ (numbers_field count_ranges 0 (beyond 9 line) (omega arith))
    (λ counts e. after_field (numbers_from (other_ranges (get_or counts.values 1 0 - 1)) 2 counts.rest) _
    (numbers_field (other_ranges (get_or counts.values 1 0 - 1)) 2 counts.rest (omega arith)) (λ others q. tt)))
    (λ a. omega arith)

pub version_field : (line : List ℕ) → FieldLe (version_fields line)
unfolding version_fields
version_field line = after_field (fields_of 86 (from_to 1 1 ∷ []) line) _ (fields_field 86 (from_to 1 1 ∷ []) line (omega arith)) (λ vs e. tt)
