-- What holds of every answer, by the ways to it: a sheet that is turned away, 7 or 8, 9, and what is found.
-- Assumes nothing.
use mathlib.Core.Path.{◌≡◌, refl}
use mathlib.Core.List.{List}
use Prim.Native.Nat.{ℕ, ◌<◌}
use native.Mathlib.Omega.{arith}
use lib.ListN.{length}
use Rattle.frame.specs.Sheet.{Sheet}
use Rattle.frame.specs.Run.{start, exact_run}
use Rattle.frame.specs.Demands.{Outcome, planned, no_plan}
use Rattle.frame.specs.Demands as frame
use Rattle.frame.specs.Limits.{tightened}
use Rattle.frame.specs.Plan.{frame_outcome}
use Rattle.frame.specs.Table.{need}
use Rattle.frame.proofs.Run.{meets_peak}
use Rattle.frame.proofs.Demand3.{frame_demand3}
use Rattle.std.specs.Prelude.{Some, None}
use Rattle.refusal.specs.declared.Refusal.{Refusal}
use Rattle.refusal.specs.declared.Refusal.TheVariants.{TableTooLarge, TableShort, PartShort}
use Rattle.refusal.proofs.Apart.{accepted_ways}
use Rattle.checks.proofs.Checks.{lack_cases}
use Rattle.sheet.specs.Reading.{reading_of, sheet_in}
use Rattle.sheet.proofs.Ranges.{read_ranges}
use Rattle.reply.specs.Reply.{Reply}
use Rattle.reply.specs.Answer.{Answer, refused, found, reply_of, PeakOf, table_after, part_after, Answers}
use Rattle.demands.specs.Order.{frame_found, unless, answer_for, answer_by, answer_of}
use Rattle.demands.specs.Demands.{Demands}
use Rattle.demands.proofs.Demands.{demands_hold}

module _ (P : Answer → Type 0) (seven : P (refused TableTooLarge)) (eight : P (refused TableShort)) where
  frame_ways : (s : Sheet) (words bytes : ℕ) → (bytes < s.jobs → P (refused PartShort)) → P (frame_found s) → P (answer_for s words bytes)
  unfolding answer_for
  frame_ways s words bytes nine h =
      lack_cases (λ o. P (unless o (frame_found s))) (need s) s.jobs words bytes (λ a. seven) (λ a b. eight) (λ a b c. nine c) (λ a b c. h)

  pub answer_ways : (t : List ℕ) (words bytes : ℕ) →
      ((f : Refusal) → (reading_of t).refusal ≡ Some f → P (refused f)) →
      ((reading_of t).refusal ≡ None → bytes < (sheet_in t).jobs → P (refused PartShort)) →
      ((reading_of t).refusal ≡ None → P (frame_found (sheet_in t))) → P (answer_of t words bytes)
  unfolding answer_by answer_of
  answer_ways t words bytes a nine h = accepted_ways P (reading_of t).refusal refused _ a (λ e. frame_ways (sheet_in t) words bytes (nine e) (h e))

-- ---- the answer's own reply, with the peak of the plan's run

abbrev pub peak_of : Answer → ℕ
peak_of (refused f) = 0
peak_of (found s n a (planned js)) = (exact_run s a js).peak
peak_of (found s n a no_plan) = 0

abbrev pub reply_to : Answer → Reply
reply_to a = reply_of a (peak_of a)

peak_found : (s : Sheet) (o : Outcome) → frame.OutcomeDemand3 s (tightened s) s.jobs (start s) o → PeakOf (found s s.jobs (start s) o) (peak_of (found s s.jobs (start s) o))
peak_found s (planned js) w = record { low = omega arith; high = meets_peak s _ _ js (start s) (omega arith) w.meets }
peak_found s no_plan w = tt

answers_itself : (a : Answer) (words bytes : List ℕ) → PeakOf a (peak_of a) → Answers a words (table_after a words) bytes (part_after a bytes) (reply_to a)
answers_itself (refused f) words bytes h = record { reply = refl; table = refl; part = refl; peak = h }
answers_itself (found s n a (planned js)) words bytes h = record { reply = refl; table = refl; part = refl; peak = h }
answers_itself (found s n a no_plan) words bytes h = record { reply = refl; table = refl; part = refl; peak = h }

-- The demands hold of the answer itself, with any table and any part lent.
pub answer_demands : (t words bytes : List ℕ) → let a = answer_of t (length words) (length bytes) in
    Demands t (length words) (length bytes) (part_after a bytes) (reply_to a)
answer_demands t words bytes =
    let a = answer_of t (length words) (length bytes) in
    demands_hold t words (table_after a words) bytes (part_after a bytes) (reply_to a)
    (answers_itself a words bytes
    (answer_ways (λ x. PeakOf x (peak_of x)) tt tt t (length words) (length bytes) (λ f e. tt) (λ e h. tt)
    (λ e. let s = sheet_in t in peak_found s (frame_outcome s) (frame_demand3 s (read_ranges t e)))))
