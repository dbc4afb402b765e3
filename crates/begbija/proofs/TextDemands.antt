-- The demands in words behind the number of plan text.
-- Assumes nothing.
use mathlib.Core.Logic.{◌⊎◌, inl, inr, ⊎_elim}
use mathlib.Core.Path.{◌≡◌, refl, sym, ap, ◌∙◌}
use mathlib.Core.Bool.{true≢false}
use mathlib.Core.List.{List, ◌++◌}
use Prim.Native.Nat.{ℕ, zero, suc, ◌≤◌, ◌<◌}
use native.Mathlib.Decide.{dec_lt}
use native.Mathlib.Omega.{arith}
use lib.IntN.{ℤ, pos, nat_abs}
use lib.Signed.{non_neg}
use lib.ListN.{length, take, drop, replicate}
use lib.Seq.{take_at}
use borrow.Author.Tests.{lt-ltb, le-ltb, ne_eqb}
use Rattle.frame.specs.Sheet.{Sheet}
use Rattle.frame.specs.Demands.{Outcome, planned, no_plan}
use Rattle.store.specs.Store.{jobs_max}
use Rattle.frame.specs.Run.{State}
use Rattle.reply.specs.Answer.{Answer, refused, found, part_after}
use Rattle.demands.specs.Order.{answer_of}
use Rattle.demands.specs.Demands.{plan_in, Demands}
use Rattle.demands.proofs.Ways.{reply_to, answer_demands}
use Rattle.plan_text.specs.Text.{text_least, plan_text}
use Rattle.std.specs.Prelude.{Result, Ok, Err}
use Rattle.refusal.specs.declared.Refusal.{Refusal}
use Rattle.refusal.specs.Code.{number_of}
use Rattle.report.specs.Report.{report_by, table_words, answer_in, report_of, text_after}
use Rattle.report.proofs.Told.{Told, answer_told, told_best}
use Rattle.c_values.specs.Values.{minus, number_by}
use Rattle.begbija.specs.Begbija.{text_number, TextDemands}

-- A refusal is no count of bytes.
refusal_not : (k n : ℕ) → 1 ≤ k → ¬ (minus k ≡ pos n)
refusal_not zero n h e = omega (arith, h)
refusal_not (suc k) n h e = true≢false (sym (ap non_neg e))

size_minus : (k : ℕ) → nat_abs (minus k) ≡ k
size_minus zero = refl
size_minus (suc k) = refl

same_refusal : (k l : ℕ) → minus k ≡ minus l → k ≡ l
same_refusal k l e = sym (size_minus k) ∙ ap nat_abs e ∙ size_minus l

-- The number of a report is that of what the call hands back.
pub text_by : (r : Result ℕ Refusal) → number_by r ≡ text_number (report_by r)
text_by (Ok n) = refl
text_by (Err f) = refl

-- ---- the call with the table inside

-- The levels of a plan, as a part with a byte for every job holds them.
plan_levels : (t : List ℕ) (s : Sheet) (i : ℕ) (a : State) (js : List ℕ) → Told t (found s i a (planned js)) →
    plan_in s (part_after (found s i a (planned js)) (replicate jobs_max 0)) ≡ js
plan_levels t s i a js n = rw (← n.2) (take_at js (drop i (replicate jobs_max 0)) i (told_best t s i a (planned js) n).keeps.levels.size)

module _ (t text text' : List ℕ) (q : ℤ) where
  -- The planner's own refusal.
  on_refused : (a : Answer) → Demands t table_words jobs_max (part_after a (replicate jobs_max 0)) (reply_to a) → (k : ℕ) → 1 ≤ k → ¬ (k ≡ 9) → (reply_to a).refusal ≡ k →
      (text_least ≤ length text) ⊎ (k ≤ 8) → q ≡ minus k → TextDemands t (length text) text' q
  on_refused a d k h o r w e =
      record {
        reply = reply_to a;
        levels = part_after a (replicate jobs_max 0);
        demands = d;
        plan = λ n z. absurd (refusal_not k n h (sym e ∙ z));
        refused = λ j l u z. r ∙ same_refusal k j (sym e ∙ z);
        narrow = ((λ z. absurd (o (same_refusal k 9 (sym e ∙ z)))), (λ z. absurd (⊎_elim (λ v. omega (arith, z.0, v)) (λ v. ⊎_elim (λ y. omega (arith, r, y, v, h)) (λ y. omega (arith, r, y, v)) z.1) w)));
      }

  -- A part that is too short, in the place of a plan or of "no plan".
  on_narrow : (s : Sheet) (i : ℕ) (a : State) (o : Outcome) → Demands t table_words jobs_max (part_after (found s i a o) (replicate jobs_max 0)) (reply_to (found s i a o)) → length text < text_least →
      ((reply_to (found s i a o)).refusal ≡ 0) ⊎ ((reply_to (found s i a o)).refusal ≡ 10) → q ≡ minus 9 → TextDemands t (length text) text' q
  on_narrow s i a o d h u e =
      record {
        reply = reply_to (found s i a o);
        levels = part_after (found s i a o) (replicate jobs_max 0);
        demands = d;
        plan = λ n z. absurd (refusal_not 9 n (omega arith) (sym e ∙ z));
        refused = λ k l w z. absurd (w (sym (same_refusal 9 k (sym e ∙ z))));
        narrow = ((λ z. (h, u)), (λ z. e));
      }

  zero_or_ten : (s : Sheet) (i : ℕ) (a : State) (o : Outcome) → ((reply_to (found s i a o)).refusal ≡ 0) ⊎ ((reply_to (found s i a o)).refusal ≡ 10)
  zero_or_ten s i a (planned js) = inl refl
  zero_or_ten s i a no_plan = inr refl

  on_found : (s : Sheet) (i : ℕ) (a : State) (o : Outcome) → Told t (found s i a o) → Demands t table_words jobs_max (part_after (found s i a o) (replicate jobs_max 0)) (reply_to (found s i a o)) → text_least ≤ length text →
      q ≡ text_number (report_of t (length text) (found s i a o)) → text' ≡ text_after t (found s i a o) text → TextDemands t (length text) text' q
  on_found s i a (planned js) n d h e w =
      let u : text' ≡ plan_text t s js ++ drop (length (plan_text t s js)) text = rw (le-ltb (length text) text_least h) at w in
      let z : q ≡ pos (length (plan_text t s js)) = rw (le-ltb (length text) text_least h) at e in
      record {
        reply = reply_to (found s i a (planned js));
        levels = part_after (found s i a (planned js)) (replicate jobs_max 0);
        demands = d;
        plan = λ k y.
            let l : length (plan_text t s js) ≡ k = ap nat_abs (sym z ∙ y) in
            (refl, rw (← n.1, plan_levels t s i a js n) (ap (take k) u ∙ take_at (plan_text t s js) (drop (length (plan_text t s js)) text) k l));
        refused = λ k l o y. absurd (refusal_not k (length (plan_text t s js)) l (sym y ∙ z));
        narrow = ((λ y. absurd (refusal_not 9 (length (plan_text t s js)) (omega arith) (sym y ∙ z))), (λ y. absurd (omega (arith, y.0, h))));
      }
  on_found s i a no_plan n d h e w =
      let z : q ≡ minus 10 = rw (le-ltb (length text) text_least h) at e in
      on_refused (found s i a no_plan) d 10 (omega arith) (λ y. omega (arith, y)) refl (inl h) z

  by_answer : (a : Answer) → Told t a → Demands t table_words jobs_max (part_after a (replicate jobs_max 0)) (reply_to a) →
      q ≡ text_number (report_of t (length text) a) → text' ≡ text_after t a text → TextDemands t (length text) text' q
  by_answer (refused f) n d e w =
      let z : q ≡ minus (number_of f) = rw (ne_eqb (number_of f) 0 (λ y. omega (arith, n, y))) at e in
      on_refused (refused f) d (number_of f) n.0 (λ y. omega (arith, n, y)) refl (inr (omega (arith, n))) z
  by_answer (found s i a o) n d e w =
      elim (dec_lt (length text) text_least) [
        | yes h ↦
            let z : q ≡ minus 9 = rw (lt-ltb (length text) text_least h) at e in
            on_narrow s i a o d h (zero_or_ten s i a o) z
        | no h ↦ on_found s i a o n d (omega arith) e w
      ]

  pub text_demands : q ≡ text_number (report_of t (length text) (answer_in t)) → text' ≡ text_after t (answer_in t) text → TextDemands t (length text) text' q
  unfolding answer_in
  text_demands e w = by_answer (answer_of t table_words jobs_max) (answer_told t table_words) (answer_demands t (replicate table_words 0) (replicate jobs_max 0)) e w
