-- The measuring call in words (document 01, 'The run without grains' and 'What is refused'). They follow from the equation with
-- `measure_of`: `proofs/Meaning.antt`.
-- Assumes nothing.
use Rattle.std.specs.Prelude.{Some, None, ◌↔◌, ◌≡◌, List, ℕ, ◌≤◌, ◌<◌, pos, length, get_or, ◌≤ℤ◌}
use Rattle.frame.specs.Sheet.{Sheet}
use Rattle.frame.specs.Run.{start, exact, exact_run}
use Rattle.frame.specs.Limits.{Meets, limits, margins}
use Rattle.frame.specs.Demands.{Below, LevelList}
use Rattle.refusal.specs.declared.Refusal.{Refusal}
use Rattle.sheet.specs.Reading.{reading_of, sheet_in}
use Rattle.measure.specs.Measure.{Measured, refused_measured, measured_as, turned_away}

-- A list on a sheet that passes 1 to 6.
pub record Judged (s : Sheet) (js : List ℕ) (q : Measured) : Type 0 where
  -- "list length is not m"
  pub eleven : (q.refusal ≡ 11) ↔ ¬ (length js ≡ s.jobs)
  -- "then 12": "a level is l or more"
  pub twelve : (q.refusal ≡ 12) ↔ ((length js ≡ s.jobs) × ¬ Below s.levels js)
  -- every list of m levels, each below l, is measured, and no other
  pub measured : (q.refusal ≡ 0) ↔ LevelList s s.jobs js
  -- 11 returns "0, 0"
  pub length_reply : q.refusal ≡ 11 → q ≡ refused_measured 11 0 0
  -- 12 returns "line 0, field the first such place, from 0"
  pub level_reply : q.refusal ≡ 12 → q ≡ refused_measured 12 0 q.field
  pub level_place : q.refusal ≡ 12 → (s.levels ≤ get_or js q.field 0) × ((i : ℕ) → i < q.field → get_or js i 0 < s.levels)
  -- "three signed margins"
  pub margins_reply : q.refusal ≡ 0 → q ≡ measured_as (margins s js)
  -- "A negative margin is a broken limit, 0 is met", each by itself
  pub time : q.refusal ≡ 0 → (pos 0 ≤ℤ q.time) ↔ ((exact_run s (start s) js).time ≤ s.deadline)
  pub energy : q.refusal ≡ 0 → (pos 0 ≤ℤ q.energy) ↔ ((exact_run s (start s) js).energy ≤ s.energy_budget)
  pub temperature : q.refusal ≡ 0 → (pos 0 ≤ℤ q.temperature) ↔ ((exact_run s (start s) js).peak ≤ s.temperature_limit)
  -- none is negative exactly where the list meets every limit after every job
  pub met : q.refusal ≡ 0 → ((pos 0 ≤ℤ q.time) × (pos 0 ≤ℤ q.energy) × (pos 0 ≤ℤ q.temperature)) ↔ Meets s exact (limits s) (start s) js

-- "The measuring call takes any list of levels", on any bytes offered as a sheet.
pub record Meaning (t js : List ℕ) (q : Measured) : Type 0 where
  -- a sheet that fails one of checks 1 to 6 is refused for the first that it fails
  pub fails : (f : Refusal) → (reading_of t).refusal ≡ Some f → q ≡ turned_away f
  pub passes : (reading_of t).refusal ≡ None → Judged (sheet_in t) js q
