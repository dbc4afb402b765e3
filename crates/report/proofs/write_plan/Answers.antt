-- The ways out, by the laws of `proofs/Told.antt`: a refusal, a part that is too short, no plan, a plan.
use mathlib.Core.Path.{◌≡◌, refl, sym, ap}
use mathlib.Core.List.{List}
use native.Mathlib.Omega.{arith}
use lib.ListN.{length, replicate}
use Prim.Native.Nat.{ℕ}
use Rattle.std.specs.Prelude.{Result, Ok, Err}
use Rattle.store.specs.declared.Store.{Store}
use Rattle.store.specs.declared.Head.{Head}
use Rattle.refusal.specs.declared.Refusal.{Refusal}
use Rattle.std.proofs.lemmas.Result.{err_from_is_err_and}
use Rattle.store.specs.Store.{jobs_max}
use Rattle.store.specs.Figures.{sheet_of}
use Rattle.refusal.proofs.Apart.{number_bounds}
use Rattle.sheet.specs.Reading.{SheetRead, read_in, reading_of}
use Rattle.sheet.proofs.Whole.{read_on}
use Rattle.sheet.proofs.Ranges.{reading_ranges}
use Rattle.reply.specs.Reply.{Reply, reply_by}
use Rattle.reply.specs.Answer.{Answers}
use Rattle.demands.specs.Order.{answer_for}
use Rattle.demands.proofs.Order.{answers_read}
use Rattle.report.specs.Report.{table_words, answer_in, report_by, report_of, text_after}
use Rattle.report.proofs.Told.{answer_away, read_wrote, read_jobs, read_few, Told, answer_told, told_refused, told_narrow, told_away, told_levels, told_plan}
use Rattle.report.proofs.write_plan.Goals as goal

-- The planner's answer, with the table and the part inside the call.
answered : (s words bytes : List ℕ) {r : Result Head Refusal} {h : Head} (st : Store) (q : Reply) → read_in r st ≡ reading_of s → r ≡ Ok h →
    Answers (answer_for (sheet_of h st) (length {A = ℕ} (replicate table_words 0)) (length {A = ℕ} (replicate jobs_max 0))) (replicate table_words 0) words (replicate jobs_max 0) bytes q →
    Answers (answer_in s) (replicate table_words 0) words (replicate jobs_max 0) bytes q
unfolding answer_in
answered s words bytes st q e m w = answers_read s _ e _ m (replicate table_words 0) words (replicate jobs_max 0) bytes q w

told : (s : List ℕ) → Told s (answer_in s)
unfolding answer_in
told s = answer_told _ table_words

-- A sheet that is refused is told so.
away : (s : List ℕ) {r : Result Head Refusal} (f : Refusal) (st : Store) (text : List ℕ) → read_in r st ≡ reading_of s → r ≡ Err f →
    (report_by (Err f) ≡ report_of s (length text) (answer_in s)) × (text ≡ text_after s (answer_in s) text)
away s f st text e m =
    let q : read_in (Err f) st ≡ reading_of s = rw m at e in
    rw (answer_away s f (ap (λ (x : SheetRead). x.refusal) (sym q))) (refl, refl)

pub returns-in_err-head : goal.returns-in_err-head
returns-in_err-head c =
    let p = err_from_is_err_and c.from_residual.result c.from_residual.ensures.1 in
    let m = away c.args.s.now c.in_err-head.field-0.0 _ c.args.text.now c.read.ensures c.in_err-head.was in
    rw (p.1, p.2) (record { value = m.0; text_after = m.1; length_le_text_least = tt })

pub invariant_of-sheet : goal.invariant_of-sheet
invariant_of-sheet c = record { ranges = reading_ranges _ _ _ c.read.ensures _ c.in_ok-head.was }

pub returns-in-Err-clause-value : goal.returns-in-Err-clause-value
returns-in-Err-clause-value c =
    let f = c.in-Err.f in
    let v = answered _ _ _ _ _ c.read.ensures c.in_ok-head.was c.plan_read-plan.ensures in
    let w = rw c.in-Err.is at v in
    (told_refused _ _ _ _ _ _ (reply_by (Err f)) (answer_in _) w (number_bounds f).0 (λ e. absurd (omega (arith, e, c.number.ensures, c.if-number.true))) _ refl).0

pub returns-in_default-clause-value : goal.returns-in_default-clause-value
returns-in_default-clause-value c =
    let f = c.in-Err.f in
    let v = answered _ _ _ _ _ c.read.ensures c.in_ok-head.was c.plan_read-plan.ensures in
    let w = rw c.in-Err.is at v in
    (told_narrow _ _ _ _ _ _ (reply_by (Err f)) (λ h. omega (arith, c.number.ensures, c.if-number.false)) (answer_in _) (told _) w c.if-text-lt-TEXT_LEAST.true _ refl).0

pub returns-in_default-2-clause-value : goal.returns-in_default-2-clause-value
returns-in_default-2-clause-value c =
    let v = answered _ _ _ _ _ c.read.ensures c.in_ok-head.was c.plan_read-plan.ensures in
    let w = rw c.in_default.is at v in
    (told_narrow _ _ _ _ _ _ (reply_by (Ok c.in_default.field-0)) (λ h. absurd (omega (arith, h))) (answer_in _) (told _) w c.if-text-lt-TEXT_LEAST.true _ refl).0

pub returns-in_err-plan-clause-value : goal.returns-in_err-plan-clause-value
returns-in_err-plan-clause-value c =
    let p = err_from_is_err_and c.from_residual-in_err-plan.result c.from_residual-in_err-plan.ensures.1 in
    let f = c.in_err-plan.field-0.0 in
    let v = answered _ _ _ _ _ c.read.ensures c.in_ok-head.was c.plan_read-plan.ensures in
    let w = rw c.in_err-plan.was at v in
    rw (p.1, p.2) (told_away _ _ _ _ _ _ (reply_by (Err f)) c.if-text-lt-TEXT_LEAST.false (answer_in _) w (number_bounds f).0 _ refl).0

pub returns-in_err-plan-clause-text_after : goal.returns-in_err-plan-clause-text_after
returns-in_err-plan-clause-text_after c =
    let f = c.in_err-plan.field-0.0 in
    let v = answered _ _ _ _ _ c.read.ensures c.in_ok-head.was c.plan_read-plan.ensures in
    let w = rw c.in_err-plan.was at v in
    (told_away _ _ _ _ _ _ (reply_by (Err f)) c.if-text-lt-TEXT_LEAST.false (answer_in _) w (number_bounds f).0 _ refl).1

pub put_plan-requires : goal.put_plan-requires
put_plan-requires c =
    let e = read_on _ _ c.read.ensures c.in_ok-head.was in
    let v = answered _ _ _ _ _ c.read.ensures c.in_ok-head.was c.plan_read-plan.ensures in
    let w = rw c.in_ok-plan.was at v in
    record {
      handed =
          record {
            read = e;
            each = omega (arith, read_few _ _ _ e, c.plan_read-plan.auto.part);
            below = λ i h. told_levels _ c.args.text.now _ _ _ _ (reply_by (Ok c.in_ok-plan.field-0)) refl (answer_in _) (told _) w i (omega (arith, h, read_jobs _ _ _ e));
          };
      room = c.if-text-lt-TEXT_LEAST.false;
    }

pub returns-clause-value : goal.returns-clause-value
unfolding sheet_of
returns-clause-value c =
    let e = read_on _ _ c.read.ensures c.in_ok-head.was in
    let v = answered _ _ _ _ _ c.read.ensures c.in_ok-head.was c.plan_read-plan.ensures in
    let w = rw c.in_ok-plan.was at v in
    (told_plan _ _ _ _ _ _ (reply_by (Ok c.in_ok-plan.field-0)) refl (answer_in _) (told _) w c.if-text-lt-TEXT_LEAST.false _ _ _ (read_wrote _ _ _ e _ _ _ _ c.put_plan.ensures.wrote) refl).0

pub returns-clause-text_after : goal.returns-clause-text_after
unfolding sheet_of
returns-clause-text_after c =
    let e = read_on _ _ c.read.ensures c.in_ok-head.was in
    let v = answered _ _ _ _ _ c.read.ensures c.in_ok-head.was c.plan_read-plan.ensures in
    let w = rw c.in_ok-plan.was at v in
    (told_plan _ _ _ _ _ _ (reply_by (Ok c.in_ok-plan.field-0)) refl (answer_in _) (told _) w c.if-text-lt-TEXT_LEAST.false _ _ _ (read_wrote _ _ _ e _ _ _ _ c.put_plan.ensures.wrote) refl).1
