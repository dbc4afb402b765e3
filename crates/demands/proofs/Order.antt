-- The order of the refusals: what a call has to show of its reply and of lent memory, test by test.
-- Assumes nothing.
use mathlib.Core.Path.{◌≡◌, refl, sym, ap, subst}
use mathlib.Core.List.{List}
use Prim.Native.Nat.{ℕ, ◌-◌}
use native.Mathlib.Omega.{arith}
use lib.ListN.{length}
use Rattle.frame.specs.Sheet.{Sheet, Ranges}
use Rattle.frame.specs.Run.{State, start}
use Rattle.frame.specs.Plan.{outcome}
use Rattle.frame.specs.Afresh.{jobs_left}
use Rattle.frame.specs.Table.{need}
use Rattle.store.specs.declared.Head.{Head}
use Rattle.store.specs.declared.Store.{Store}
use Rattle.store.specs.Figures.{sheet_of}
use Rattle.store.specs.Sheet.{sheet_read}
use Rattle.store.specs.declared.sheet.ReadSheet.{ReadSheet}
use Rattle.refusal.specs.declared.Refusal.{Refusal}
use Rattle.sheet.specs.Reading.{SheetRead, read_in, reading_of}
use Rattle.checks.specs.Checks.{lack_of, fault_of}
use Rattle.checks.proofs.Checks.{fault_none}
use Rattle.reply.specs.Reply.{Reply, reply_by}
use Rattle.reply.specs.Answer.{Answer, refused, found, found_from, Answers}
use Rattle.std.specs.Prelude.{Option, Some, None, Result, Ok, Err}
use Rattle.demands.specs.Order.{unless, answer_for, afresh_for, answer_by, answer_handed, answer_of, afresh_of}

-- ---- a test

-- Nothing lent is written.
turned : {words bytes : List ℕ} {q : Reply} (a : Answer) (f : Refusal) → a ≡ refused f → q ≡ reply_by (Err f) → Answers a words words bytes bytes q
turned a f e h = rw e (record { reply = h; table = refl; part = refl; peak = tt })

-- ---- the checks that follow the sheet's own

module _ (words bytes : List ℕ) (s : Sheet) (a : State) where
  abbrev given : List ℕ → List ℕ → Reply → Type 0
  given words' bytes' q = Answers (afresh_for s a (length words) (length bytes)) words words' bytes bytes' q

  pub answers_lack : (f : Refusal) → lack_of (need s) (jobs_left s a) (length words) (length bytes) ≡ Some f → given words bytes (reply_by (Err f))
  unfolding afresh_for
  answers_lack f l = turned _ f (rw l refl) refl

  module _ (l : lack_of (need s) (jobs_left s a) (length words) (length bytes) ≡ None) where
    pub answers_fault : (f : Refusal) → fault_of s a ≡ Some f → given words bytes (reply_by (Err f))
    unfolding afresh_for
    answers_fault f h = turned _ f (rw (l, h) refl) refl

    pub answers_found : (words' bytes' : List ℕ) (q : Reply) → fault_of s a ≡ None → Answers (found_from s a) words words' bytes bytes' q → given words' bytes' q
    unfolding afresh_for
    answers_found words' bytes' q h z = rw (l, h) z

-- ---- the sheet's own frame is the one planned afresh from its start

start_for : (s : Sheet) → Ranges s → (words bytes : ℕ) → afresh_for s (start s) words bytes ≡ answer_for s words bytes
unfolding afresh_for answer_for
start_for s ok words bytes =
    let m : s.jobs - 0 ≡ s.jobs = omega arith in
    let z = fault_none s (start s) (record { done = ok.jobs.low; range = record { level = ok.start_level; time = omega arith; energy = omega arith; temperature = ok.start_temperature }; temperature = ok.cool }) in
    rw (← z)
    (ap (λ (n : ℕ). unless (lack_of (need s) n words bytes) (found s n (start s) (outcome s n (start s)))) m)

pub sheet_start : (words words' bytes bytes' : List ℕ) (s : Sheet) (a : State) (q : Reply) → Ranges s → a ≡ start s →
    Answers (afresh_for s a (length words) (length bytes)) words words' bytes bytes' q → Answers (answer_for s (length words) (length bytes)) words words' bytes bytes' q
sheet_start words words' bytes bytes' s a q ok e h =
    let z = rw e at h in
    rw (start_for s ok (length words) (length bytes)) at z

unless_start : (o : Option Refusal) (words words' bytes bytes' : List ℕ) (s : Sheet) (a : State) (q : Reply) → (o ≡ None → Ranges s) → a ≡ start s →
    Answers (unless o (afresh_for s a (length words) (length bytes))) words words' bytes bytes' q →
    Answers (unless o (answer_for s (length words) (length bytes))) words words' bytes bytes' q
unless_start None words words' bytes bytes' s a q ok e h = sheet_start words words' bytes bytes' s a q (ok refl) e h
unless_start (Some f) words words' bytes bytes' s a q ok e h = h

-- Of what was read, also where it was refused.
pub answers_start : (words words' bytes bytes' : List ℕ) (r : SheetRead) (a : State) (q : Reply) → (r.refusal ≡ None → Ranges (sheet_of r.head r.store)) →
    a ≡ start (sheet_of r.head r.store) → Answers (answer_by r (λ s. afresh_for s a (length words) (length bytes))) words words' bytes bytes' q →
    Answers (answer_by r (λ s. answer_for s (length words) (length bytes))) words words' bytes bytes' q
unfolding answer_by
answers_start words words' bytes bytes' r a q ok e h = unless_start r.refusal words words' bytes bytes' (sheet_of r.head r.store) a q ok e h

-- ---- what is handed on

module _ {r : Result ReadSheet Refusal} (answer : Sheet → Answer) {words bytes : List ℕ} where
  pub handed_away : (f : Refusal) → r ≡ Err f → Answers (answer_handed r answer) words words bytes bytes (reply_by (Err f))
  handed_away f m = turned _ f (rw m refl) refl

  pub handed_on : {words' bytes' : List ℕ} {q : Reply} (p : ReadSheet) → r ≡ Ok p → Answers (answer (sheet_read p)) words words' bytes bytes' q →
      Answers (answer_handed r answer) words words' bytes bytes' q
  handed_on p m h = rw m h

-- ---- what the reader hands back

module _ (t : List ℕ) {r : Result Head Refusal} (st : Store) (e : read_in r st ≡ reading_of t) where
  -- A sheet that is refused.
  module _ (f : Refusal) (m : r ≡ Err f) where
    by_refusal : (answer : Sheet → Answer) → refused f ≡ answer_by (reading_of t) answer
    unfolding answer_by
    by_refusal answer = rw (sym e, m) refl

    module _ (words words' bytes bytes' : List ℕ) (q : Reply) (w : Answers (refused f) words words' bytes bytes' q) where
      pub answers_away : Answers (answer_of t (length words) (length bytes)) words words' bytes bytes' q
      unfolding answer_of
      answers_away = subst (λ (x : Answer). Answers x words words' bytes bytes' q) (by_refusal (λ s. answer_for s (length words) (length bytes))) w

      pub afresh_away : (a : State) → Answers (afresh_of t a (length words) (length bytes)) words words' bytes bytes' q
      unfolding afresh_of
      afresh_away a = subst (λ (x : Answer). Answers x words words' bytes bytes' q) (by_refusal (λ s. afresh_for s a (length words) (length bytes))) w

  -- A sheet that was read, by its figures.
  module _ (h : Head) (m : r ≡ Ok h) where
    by_figures : (answer : Sheet → Answer) → answer (sheet_of h st) ≡ answer_by (reading_of t) answer
    unfolding answer_by
    by_figures answer = rw (sym e, m) refl

    module _ (words words' bytes bytes' : List ℕ) (q : Reply) where
      pub answers_read : Answers (answer_for (sheet_of h st) (length words) (length bytes)) words words' bytes bytes' q →
          Answers (answer_of t (length words) (length bytes)) words words' bytes bytes' q
      unfolding answer_of
      answers_read w = subst (λ (x : Answer). Answers x words words' bytes bytes' q) (by_figures (λ s. answer_for s (length words) (length bytes))) w

      pub afresh_read : (a : State) → Answers (afresh_for (sheet_of h st) a (length words) (length bytes)) words words' bytes bytes' q →
          Answers (afresh_of t a (length words) (length bytes)) words words' bytes bytes' q
      unfolding afresh_of
      afresh_read a w = subst (λ (x : Answer). Answers x words words' bytes bytes' q) (by_figures (λ s. afresh_for s a (length words) (length bytes))) w
