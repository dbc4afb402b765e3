-- The demands of the request on the planner's reply and on the list that the part holds, in words. What the table and the part
-- hold besides is said by the equations of `reply`, from which these words follow: `proofs/Demands.antt`.
-- Assumes nothing.
use Rattle.std.specs.Prelude.{Some, None, ◌↔◌, ◌≡◌, List, ℕ, ◌≤◌, ◌<◌, take}
use Rattle.frame.specs.Sheet.{Sheet, Between}
use Rattle.frame.specs.Run.{State, start, exact, exact_run}
use Rattle.frame.specs.Limits.{Limits, Meets, limits, tightened}
use Rattle.frame.specs.Demands.{LevelList, Keeps, Best, Tight, end_time, figures}
use Rattle.frame.specs.Table.{need, words_max}
use Rattle.refusal.specs.declared.Refusal.{Refusal}
use Rattle.refusal.specs.Code.{number_of, line_of, field_of}
use Rattle.sheet.specs.Reading.{reading_of, sheet_in}
use Rattle.reply.specs.Reply.{Reply, refused_reply}

-- None of 7, 8 and 9 applies where n levels are to be written: the table's size is allowed, and what is lent is enough.
pub record Enough (s : Sheet) (n words bytes : ℕ) : Type 0 where
  pub size : need s ≤ words_max
  pub table : need s ≤ words
  pub part : n ≤ bytes

-- Demand 1 on 7, 8 and 9, on a sheet that passes 1 to 6: each "given under that refusal's condition and no other".
pub record Memory (s : Sheet) (n words bytes : ℕ) (r : Reply) : Type 0 where
  pub seven : (r.refusal ≡ 7) ↔ (words_max < need s)
  pub eight : (r.refusal ≡ 8) ↔ ((need s ≤ words_max) × (words < need s))
  pub nine : (r.refusal ≡ 9) ↔ ((need s ≤ words_max) × (need s ≤ words) × (bytes < n))

-- "a plan is the list that the m bytes at the start of the part hold after the planner's reply of refusal 0"
abbrev pub plan_in : Sheet → List ℕ → List ℕ
plan_in s part = take s.jobs part

-- Demands 1 and 2 on the answer for the next n jobs from a state a, with `passed` for: no refusal tested before 10 applies. The plan
-- is the list that the first n bytes of the part hold.
pub record Fixed (s : Sheet) (n : ℕ) (a : State) (passed : Type 0) (part : List ℕ) (r : Reply) : Type 0 where
  -- "Where no refusal tested before it applies, "no plan" is answered if there is no such list, and only then": no list of levels
  -- "within the limits when rounded up to the grains"
  pub ten : (r.refusal ≡ 10) ↔ (passed × ((js : List ℕ) → ¬ Keeps s s.deadline n a js))
  pub plan : (r.refusal ≡ 0) ↔ (passed × ((js : List ℕ) × Keeps s s.deadline n a js))
  -- "of all lists of levels that stay within the limits when rounded up to the grains, the one of least time, and among equals
  -- the first in level order"
  pub best : r.refusal ≡ 0 → Best s n a (take n part)
  -- "and a peak figure: at least the highest temperature at a job end of that run and at most C"
  pub peak : r.refusal ≡ 0 → Between (exact_run s a (take n part)).peak s.temperature_limit r.peak
  -- a plan's reply holds "line 0, field 0", and "Every figure of a refused reply not named is 0"
  pub place : r.refusal ≡ 0 → (r.line ≡ 0) × (r.field ≡ 0)
  pub zeros : ¬ (r.refusal ≡ 0) → r ≡ refused_reply r.refusal 0 0

-- Demand 3 on the same answer, with k the tightened limits.
pub record Demand3 (s : Sheet) (k : Limits) (n : ℕ) (a : State) (passed : Type 0) (part : List ℕ) (r : Reply) : Type 0 where
  -- "the answer is the one that demands 1 and 2 fix"
  pub answer : Fixed s n a passed part r
  -- "Where it is a plan, that plan, run without grains, meets deadline, ration and ceiling after every job"
  pub levels : r.refusal ≡ 0 → LevelList s n (take n part)
  pub meets : r.refusal ≡ 0 → Meets s exact (limits s) a (take n part)
  -- "and the time, energy and final temperature in the reply are that run's"
  pub figures : r.refusal ≡ 0 → record { time = r.time; energy = r.energy; temperature = r.temperature } ≡ figures s a (take n part)
  -- "It takes no longer than any list that, run without grains, meets" the tightened limits "after every job, a limit below zero being
  -- met by none"
  pub no_slower : r.refusal ≡ 0 → (js : List ℕ) → Tight s k n a js → r.time ≤ end_time s a js
  -- "Where the answer is "no plan", no list meets these tightened limits."
  pub no_plan : r.refusal ≡ 10 → (js : List ℕ) → ¬ Tight s k n a js

-- The demands on the sheet's own frame: "For every sheet that passes checks 1 to 6 of document 01, .. and whatever table and part
-- are lent". The tightened limits are "the deadline, the ration less (m − 1) × (g − 1) and the ceiling less m × (h − 1)".
pub record FrameDemands (s : Sheet) (words bytes : ℕ) (part : List ℕ) (r : Reply) : Type 0 where
  pub memory : Memory s s.jobs words bytes r
  pub found : Demand3 s (tightened s) s.jobs (start s) (Enough s s.jobs words bytes) part r

-- For every sequence of bytes offered as a sheet.
pub record Demands (sheet : List ℕ) (words bytes : ℕ) (part : List ℕ) (r : Reply) : Type 0 where
  -- a sheet that fails one of checks 1 to 6 is refused for the first that it fails
  pub fails : (f : Refusal) → (reading_of sheet).refusal ≡ Some f → r ≡ refused_reply (number_of f) (line_of f) (field_of f)
  pub passes : (reading_of sheet).refusal ≡ None → FrameDemands (sheet_in sheet) words bytes part r
