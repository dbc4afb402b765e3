-- What the planner's reply says of its answer.
-- Assumes nothing.
use mathlib.Core.Path.{◌≡◌, refl, sym, ap, subst, ◌∙◌}
use mathlib.Core.List.{List, ◌++◌}
use Prim.Native.Nat.{ℕ, ◌+◌, ◌≤◌, ◌<◌}
use native.Mathlib.Omega.{arith}
use lib.ListN.{length, get_or, take, drop}
use lib.Seq.{take_at}
use borrow.Author.Tests.{lt-ltb, le-ltb}
use Rattle.frame.specs.Sheet.{Sheet, Ranges}
use Rattle.frame.specs.Run.{State, start}
use Rattle.frame.specs.Demands.{Outcome, planned, no_plan}
use Rattle.frame.specs.Demands as frame
use Rattle.frame.specs.Plan.{frame_outcome}
use Rattle.frame.proofs.Demand3.{frame_demand2}
use Rattle.store.specs.declared.Store.{Store}
use Rattle.store.specs.Store.{jobs_max, levels_max}
use Rattle.store.specs.Figures.{sheet_of}
use Rattle.refusal.specs.declared.Refusal.{Refusal}
use Rattle.refusal.specs.Code.{number_of}
use Rattle.refusal.proofs.Apart.{number_bounds, accepted_refused}
use Rattle.std.specs.Prelude.{None, Some, Ok}
use Rattle.store.specs.declared.Head.{Head}
use Rattle.sheet.specs.Reading.{SheetRead, read_in, reading_of, sheet_in}
use Rattle.sheet.proofs.Whole.{read_refused}
use Rattle.sheet.proofs.Ranges.{read_ranges}
use Rattle.reply.specs.Reply.{Reply}
use Rattle.reply.specs.Answer.{Answer, refused, found, Answers}
use Rattle.solve.proofs.Finding.{on_levels}
use Rattle.demands.specs.Order.{answer_by, answer_of}
use Rattle.demands.proofs.Ways.{answer_ways}
use Rattle.plan_text.specs.Text.{text_least, plan_text}
use Rattle.writer.specs.Written.{Wrote}
use Rattle.report.specs.Report.{Report, answer_in, refused_report, report_of, text_after}

-- What holds of every answer to a sheet with a byte for every level: a refusal has a number of 1 to 8, and what is found is found on the sheet that was read.
abbrev pub Told : List ℕ → Answer → Type 0
Told t (refused f) = (1 ≤ number_of f) × (number_of f ≤ 8)
Told t (found s n a o) = ((reading_of t).refusal ≡ None) × (s ≡ sheet_in t) × (n ≡ s.jobs) × (a ≡ start s) × (o ≡ frame_outcome s)

pub answer_told : (t : List ℕ) (words : ℕ) → Told t (answer_of t words jobs_max)
answer_told t words =
    answer_ways (Told t) (omega arith) (omega arith) t words jobs_max (λ f h. ((number_bounds f).0, omega (arith, (read_refused t f h).number)))
    (λ e h. absurd (omega (arith, h, (read_ranges t e).jobs.high))) (λ e. (e, refl, refl, refl, refl))

-- What is found meets demand 2.
pub told_best : (t : List ℕ) (s : Sheet) (n : ℕ) (a : State) (o : Outcome) → Told t (found s n a o) → frame.OutcomeDemand2 s n a o
told_best t s n a o w = rw (w.2, w.3, w.4) (frame_demand2 s (rw w.1 (read_ranges t w.0)))

-- What is written from the start of a part on.
whole : {old xs new : List ℕ} {next : ℕ} → Wrote old 0 xs new next → new ≡ xs ++ drop (length xs) old
whole {old} {xs} w = let z : 0 + length xs ≡ length xs = omega arith in w.bytes ∙ ap (λ (k : ℕ). xs ++ drop k old) z

-- A sheet that is refused is answered so.
pub answer_away : (t : List ℕ) (f : Refusal) → (reading_of t).refusal ≡ Some f → answer_in t ≡ refused f
unfolding answer_in answer_of answer_by
answer_away t f h = accepted_refused refused _ h

-- The head and the store that were read are those of the text.
module _ (t : List ℕ) (h : Head) (st : Store) (e : read_in (Ok h) st ≡ reading_of t) where
  pub read_wrote : (old levels new : List ℕ) (n : ℕ) → Wrote old 0 (plan_text t (sheet_of h st) (take h.jobs levels)) new n →
      Wrote old 0 (plan_text t (sheet_in t) (take (sheet_in t).jobs levels)) new n
  unfolding sheet_of
  read_wrote old levels new n w = subst (λ (x : SheetRead). Wrote old 0 (plan_text t (sheet_of x.head x.store) (take x.head.jobs levels)) new n) e w

  pub read_jobs : h.jobs ≡ (sheet_in t).jobs
  unfolding sheet_of
  read_jobs = ap (λ (x : SheetRead). x.head.jobs) e

  pub read_few : h.jobs ≤ jobs_max
  read_few = omega (arith, read_jobs, (read_ranges t (ap (λ (x : SheetRead). x.refusal) (sym e))).jobs.high)

-- ---- the four ways out

module _ (t : List ℕ) (text words words' bytes bytes' : List ℕ) (p : Reply) where
  -- What is promised of the report and of the part.
  abbrev pub Promise : Answer → Report → List ℕ → Type 0
  Promise a q new = (q ≡ report_of t (length text) a) × (new ≡ text_after t a text)

  -- A refusal but for "no plan", whatever the part.
  pub told_refused : (a : Answer) → Answers a words words' bytes bytes' p → 0 < p.refusal → ¬ (p.refusal ≡ 10) → (q : Report) →
      q ≡ refused_report p.refusal p.line p.field → Promise a q text
  told_refused (refused f) w h k q e = (e ∙ ap (λ (x : Reply). refused_report x.refusal x.line x.field) w.reply, refl)
  told_refused (found s k a (planned js)) w h i q e = absurd (omega (arith, ap (λ (x : Reply). x.refusal) w.reply))
  told_refused (found s k a no_plan) w h i q e = absurd (i (ap (λ (x : Reply). x.refusal) w.reply))

  -- A part that is too short, in the place of a plan or of "no plan".
  pub told_narrow : (0 < p.refusal → 9 ≤ p.refusal) → (a : Answer) → Told t a → Answers a words words' bytes bytes' p → length text < text_least → (q : Report) → q ≡ refused_report 9 0 0 → Promise a q text
  told_narrow other (refused f) n w h q e = absurd (omega (arith, n, ap (λ (x : Reply). x.refusal) w.reply, other (omega (arith, n, ap (λ (x : Reply). x.refusal) w.reply))))
  told_narrow other (found s k a o) n w h q e = rw (lt-ltb (length text) text_least h) (e, refl)

  -- Every refusal, where the part has room.
  pub told_away : text_least ≤ length text → (a : Answer) → Answers a words words' bytes bytes' p → 0 < p.refusal → (q : Report) → q ≡ refused_report p.refusal p.line p.field → Promise a q text
  told_away room (refused f) w h q e = (e ∙ ap (λ (x : Reply). refused_report x.refusal x.line x.field) w.reply, refl)
  told_away room (found s k a (planned js)) w h q e = absurd (omega (arith, ap (λ (x : Reply). x.refusal) w.reply))
  told_away room (found s k a no_plan) w h q e =
      rw (le-ltb (length text) text_least room) (e ∙ ap (λ (x : Reply). refused_report x.refusal x.line x.field) w.reply, refl)

  -- A plan: the sheet was read, and the levels are the plan's.
  module _ (zero : p.refusal ≡ 0) where
    pub told_read : (a : Answer) → Told t a → Answers a words words' bytes bytes' p → (reading_of t).refusal ≡ None
    told_read (refused f) n w = absurd (omega (arith, n, ap (λ (x : Reply). x.refusal) w.reply))
    told_read (found s k a o) n w = n.0

    pub told_levels : (a : Answer) → Told t a → Answers a words words' bytes bytes' p → (i : ℕ) → i < (sheet_in t).jobs → get_or bytes' i 0 < levels_max
    told_levels (refused f) n w i h = absurd (omega (arith, n, ap (λ (x : Reply). x.refusal) w.reply))
    told_levels (found s k a (planned js)) n w i h =
        let ok : Ranges s = rw n.1 (read_ranges t n.0) in
        let l : i < k = rw (n.2, n.1) h in
        omega (arith, on_levels s k a words words' bytes bytes' (planned js) (told_best t s k a (planned js) n) refl w.part i l, ok.levels.high)
    told_levels (found s k a no_plan) n w i h = absurd (omega (arith, ap (λ (x : Reply). x.refusal) w.reply))

    pub told_plan : (a : Answer) → Told t a → Answers a words words' bytes bytes' p → text_least ≤ length text → (new : List ℕ) (n : ℕ) (q : Report) →
        Wrote text 0 (plan_text t (sheet_in t) (take (sheet_in t).jobs bytes')) new n →
        q ≡ record { refusal = 0; line = 0; field = 0; length = n } → Promise a q new
    told_plan (refused f) m w room new n q v e = absurd (omega (arith, m, ap (λ (x : Reply). x.refusal) w.reply))
    told_plan (found s i a (planned js)) m w room new n q v e =
        let z : take i bytes' ≡ js = ap (take i) w.part ∙ take_at js (drop i bytes) i (told_best t s i a (planned js) m).keeps.levels.size in
        let y : take (sheet_in t).jobs bytes' ≡ js = ap (λ (x : Sheet). take x.jobs bytes') (sym m.1) ∙ ap (λ (x : ℕ). take x bytes') (sym m.2) ∙ z in
        let u : Wrote text 0 (plan_text t s js) new n =
        subst (λ (x : Sheet). Wrote text 0 (plan_text t x js) new n) (sym m.1) (subst (λ (xs : List ℕ). Wrote text 0 (plan_text t (sheet_in t) xs) new n) y v) in
        let k : n ≡ length (plan_text t s js) = omega (arith, u.place) in
        rw (le-ltb (length text) text_least room) (e ∙ ap (λ (x : ℕ). record { refusal = 0; line = 0; field = 0; length = x }) k, whole u)
    told_plan (found s i a no_plan) m w room new n q v e = absurd (omega (arith, ap (λ (x : Reply). x.refusal) w.reply))
