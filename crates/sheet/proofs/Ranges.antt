-- The figures of a sheet that is read without refusal lie in the ranges of document 01, 'The sheet'.
-- Assumes nothing.
use mathlib.Core.Path.{◌≡◌, refl, sym, ap, subst}
use mathlib.Core.List.{List}
use Prim.Native.Nat.{ℕ, zero, suc, ◌+◌, ◌*◌, ◌≤◌, ◌<◌}
use native.Mathlib.Decide.{dec_lt}
use native.Mathlib.Omega.{arith}
use Rattle.std.specs.Prelude.{None, Result, Ok, Err, IfOk}
use Rattle.frame.specs.Sheet.{Ranges}
use Rattle.store.specs.Store.{jobs_max, levels_max}
use Rattle.store.specs.declared.Head.{Head}
use Rattle.store.specs.declared.Store.{Store}
use Rattle.store.specs.Figures.{clear, sheet_of}
use Rattle.name_lines.specs.Name.{name_fault}
use Rattle.fields.proofs.After.{after_cases}
use Rattle.reading.specs.declared.LineFault.{LineFault}
use Rattle.reading.specs.Rest.{Rest, next_by}
use Rattle.line_kinds.specs.declared.Kind.TheVariants.{Level, Change, Work}
use Rattle.lines.specs.Lines.{Found, stop, block_from}
use Rattle.lines.proofs.Kept.{Kept, kept_clear, block_from_kept, Timed, block_from_stays, block_from_timed}
use Rattle.body.specs.Body.{onward, changes_from, jobs_from, body_from}
use Rattle.refusal.specs.declared.Refusal.{Refusal}
use Rattle.head.proofs.Head.{InRange}
use Rattle.sheet.specs.Reading.{SheetRead, read_in, reading_of, sheet_in}
use Rattle.sheet.proofs.Whole.{behind_head, read_whole, read_on}

-- ---- the lines after the H line

-- What was found of m jobs at l levels: every figure in its range, and, where it is sound, every time of a job at least 1.
record Filled (resistance m l : ℕ) (f : Found) : Type 0 where
  kept : Kept resistance f.store
  timed : (end : Rest) → f.read ≡ Ok end → (i j : ℕ) → i < m → j < l → Timed f.store i j

module _ (resistance m l : ℕ) (jobs : m ≤ jobs_max) (few : l ≤ levels_max) where
  -- A stop before the end.
  stopped : (st : Store) (f : LineFault) → Kept resistance st → Filled resistance m l (stop st f)
  stopped st f z = record { kept = z; timed = λ end e. absurd cc }

  -- The S lines of the next n levels left.
  changes_kept : (n p : ℕ) (r : Rest) (st : Store) → Kept resistance st → Kept resistance (changes_from l n p r st).store
  unfolding changes_from
  changes_kept zero p r st z = z
  changes_kept (suc n) p r st z =
      let f = block_from (Change p) (p * levels_max) l 0 r st in
      let y = block_from_kept resistance (Change p) (p * levels_max) l 0 (refl, omega arith) r st z in
      after_cases (λ (g : Found). Kept resistance g.store) f.read _ _ (λ e q. y) (λ end q. changes_kept n (p + 1) end f.store y)

  -- The lines of the next n jobs, with the times of i jobs in the store.
  jobs_filled : (n i : ℕ) (r : Rest) (st : Store) → i + n ≡ m → Kept resistance st → ((a j : ℕ) → a < i → j < l → Timed st a j) →
      Filled resistance m l (jobs_from l n i r st)
  unfolding jobs_from
  jobs_filled zero i r st h z w = record { kept = z; timed = λ end e a j x y. w a j (omega arith) y }
  jobs_filled (suc n) i r st h z w =
      let P = Filled resistance m l in
      after_cases P (next_by name_fault r) _ _ (λ e q. stopped st e z)
      (λ name q.
      let f = block_from Work (i * levels_max) l 0 name.1 st in
      let y = block_from_kept resistance Work (i * levels_max) l 0 tt name.1 st z in
      after_cases P f.read _ _ (λ e s. stopped f.store e y)
      (λ end s. jobs_filled n (i + 1) end f.store (omega arith) y
      (λ a j x u. elim (dec_lt a i) [
        | yes d ↦ block_from_stays Work (i * levels_max) l 0 name.1 st a j (w a j d u)
        | no d ↦
            let q : a ≡ i = omega arith in
            rw q (block_from_timed i (omega arith) l 0 name.1 st (omega arith) z.sized end s j (omega arith) (omega arith))
      ])))

  -- All of them.
  body_filled : (r : Rest) (st : Store) → Kept resistance st → Filled resistance m l (body_from m l resistance r st)
  unfolding body_from
  body_filled r st z =
      let f = block_from (Level resistance) 0 l 0 r st in
      let y = block_from_kept resistance (Level resistance) 0 l 0 refl r st z in
      let g = onward f (changes_from l l 0) in
      let w = after_cases (λ (h : Found). Kept resistance h.store) f.read _ _ (λ e q. y) (λ end q. changes_kept l 0 end f.store y) in
      after_cases (Filled resistance m l) g.read _ _ (λ e q. stopped g.store e w)
      (λ end q. jobs_filled m 0 end g.store (omega arith) w (λ a j x u. absurd (omega arith)))

-- ---- a frame's figures

-- The figures of a sound H line and of a store that is kept.
as_ranges : (head : Head) (st : Store) → InRange head → head.start_temperature ≤ head.temperature_limit → Kept head.resistance st →
    ((i j : ℕ) → i < head.jobs → j < head.levels → Timed st i j) → Ranges (sheet_of head st)
unfolding sheet_of
as_ranges head st h cool z w =
    record {
      jobs = record { low = h.jobs.0; high = h.jobs.1 };
      levels = record { low = h.levels.0; high = h.levels.1 };
      start_level = omega (arith, h.levels.0, h.start_level);
      deadline = h.deadline;
      energy_budget = h.energy_budget;
      temperature_limit = h.temperature_limit;
      start_temperature = h.start_temperature;
      resistance = h.resistance;
      energy_step = record { low = h.energy_step.0; high = h.energy_step.1 };
      temperature_step = record { low = h.temperature_step.0; high = h.temperature_step.1 };
      power = λ j. (z.power j).most;
      steady = λ j. (z.power j).steady;
      change_time = λ p j. (z.change p j).time;
      change_energy = λ p j. (z.change p j).energy;
      stay = λ p. (z.change p p).stay refl;
      job_time = λ i j. (z.work i j).time;
      job_time_least = w;
      job_energy = λ i j. (z.work i j).energy;
      decay = λ i j. (z.work i j).decay;
      cool = cool;
    }

-- ---- a whole sheet

-- The figures of a sheet that is read without refusal keep the ranges of document 01.
pub read_ranges : (t : List ℕ) → (reading_of t).refusal ≡ None → Ranges (sheet_in t)
read_ranges t e =
    let w = read_whole t e in
    let h = w.held in
    let g = body_filled w.head.resistance w.head.jobs w.head.levels h.jobs.1 h.levels.1 (behind_head t) clear (kept_clear w.head.resistance) in
    rw w.same (as_ranges w.head _ h w.cool g.kept (g.timed w.end w.sound))

-- The same of what the reader hands back and leaves in the store.
pub reading_ranges : (t : List ℕ) (r : Result Head Refusal) (st : Store) → read_in r st ≡ reading_of t → (h : Head) → r ≡ Ok h → Ranges (sheet_of h st)
reading_ranges t r st e h m =
    let q = read_on _ _ e m in
    subst (λ (x : SheetRead). Ranges (sheet_of x.head x.store)) (sym q) (read_ranges t (ap (λ (x : SheetRead). x.refusal) (sym q)))

pub ranges_read : (t : List ℕ) (r : Result Head Refusal) (st : Store) → read_in r st ≡ reading_of t → IfOk r (λ h. Ranges (sheet_of h st))
ranges_read t (Ok h) st e = reading_ranges t (Ok h) st e h refl
ranges_read t (Err f) st e = tt
