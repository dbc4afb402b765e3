-- The demands on a frame planned afresh after a job (document 02, W1), in words. What the table and the part hold besides is said by the
-- equations of `reply`.
-- Assumes nothing.
use Rattle.std.specs.Prelude.{Some, None, ◌↔◌, ◌⊎◌, ◌≡◌, List, ℕ, ◌≤◌, ◌<◌}
use Rattle.frame.specs.Sheet.{Sheet}
use Rattle.frame.specs.Run.{State, start}
use Rattle.frame.specs.Demands.{Best, end_time}
use Rattle.frame.specs.Afresh.{InRange, Readable, jobs_left, tightened_left, Kept}
use Rattle.refusal.specs.declared.Refusal.{Refusal}
use Rattle.refusal.specs.Code.{number_of, line_of, field_of}
use Rattle.sheet.specs.Reading.{reading_of, sheet_in}
use Rattle.reply.specs.Reply.{Reply, refused_reply}
use Rattle.demands.specs.Demands.{Enough, Memory, Demand3}

-- None of the refusals before 10 applies.
abbrev pub Passed : Sheet → State → ℕ → ℕ → Type 0
Passed s a words bytes = Enough s (jobs_left s a) words bytes × Readable s a

-- The demands on what is answered from a reading a, on a sheet that passes 1 to 6.
pub record LeftDemands (s : Sheet) (a : State) (words bytes : ℕ) (part : List ℕ) (r : Reply) : Type 0 where
  -- "the part gets only the remaining levels (9 is judged by their count, at least 0)"
  pub memory : Memory s (jobs_left s a) words bytes r
  -- "13 where jobs done is m or more"
  pub thirteen : (r.refusal ≡ 13) ↔ (Enough s (jobs_left s a) words bytes × (s.jobs ≤ a.done))
  -- "14 where the level is l or more, time or energy is above 2,000,000,000, or temperature is above 20,000"
  pub fourteen : (r.refusal ≡ 14) ↔ (Enough s (jobs_left s a) words bytes × (a.done < s.jobs) × ¬ InRange s a)
  -- "A reading above the ceiling is number 5 with line 0, field 0"
  pub five : (r.refusal ≡ 5) ↔ (Enough s (jobs_left s a) words bytes × (a.done < s.jobs) × InRange s a × (s.temperature_limit < a.temperature))
  -- "plan the remaining jobs by the same rule with the whole frame's limits"; "totals count on from the readings"
  pub found : Demand3 s (tightened_left s (jobs_left s a)) (jobs_left s a) a (Passed s a words bytes) part r
  -- "energy or time past its limit is 10"
  pub past : Passed s a words bytes → (s.energy_budget < a.energy) ⊎ (s.deadline < a.time) → r.refusal ≡ 10
  -- "If the first plan was kept so far, level included, the memory suffices and no reading is above that plan's run without grains, a
  -- plan must be found that ends no later."
  pub kept : (js : List ℕ) → Best s s.jobs (start s) js → Kept s (start s) js a.done a → Enough s (jobs_left s a) words bytes →
      (r.refusal ≡ 0) × (r.time ≤ end_time s (start s) js)
  -- the same of a plan that was itself made afresh, from an earlier reading b
  pub kept_afresh : (b : State) → Readable s b → b.peak ≡ 0 → (js : List ℕ) → Best s (jobs_left s b) b js → (n : ℕ) → Kept s b js n a →
      Enough s (jobs_left s a) words bytes → (r.refusal ≡ 0) × (r.time ≤ end_time s b js)

-- For every sequence of bytes offered as a sheet, and every reading.
pub record AfreshDemands (sheet : List ℕ) (a : State) (words bytes : ℕ) (part : List ℕ) (r : Reply) : Type 0 where
  -- a sheet that fails one of checks 1 to 6 is refused for the first that it fails
  pub fails : (f : Refusal) → (reading_of sheet).refusal ≡ Some f → r ≡ refused_reply (number_of f) (line_of f) (field_of f)
  pub passes : (reading_of sheet).refusal ≡ None → LeftDemands (sheet_in sheet) a words bytes part r
