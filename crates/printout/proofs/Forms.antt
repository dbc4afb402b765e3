-- The two forms of a printout: a plan's text, which stands in the part already, and an R line.
-- Assumes nothing.
use mathlib.Core.Path.{◌≡◌, refl, ap, ◌∙◌}
use mathlib.Core.List.{List, ◌++◌}
use Prim.Native.Nat.{ℕ, ◌+◌, ◌≤◌}
use native.Mathlib.Omega.{arith}
use lib.ListN.{length, drop}
use borrow.Author.Tests.{le-ltb}
use Rattle.frame.specs.Demands.{planned, no_plan}
use Rattle.refusal.specs.Code.{number_of, line_of, field_of}
use Rattle.refusal.proofs.Apart.{number_bounds}
use Rattle.sheet.proofs.Whole.{read_refused}
use Rattle.reply.specs.Answer.{Answer, refused, found}
use Rattle.demands.proofs.Ways.{answer_ways}
use Rattle.plan_lines.specs.Lines.{refusal_line}
use Rattle.store.specs.Store.{jobs_max}
use Rattle.body.specs.Body.{end_line}
use Rattle.plan_text.specs.Text.{text_least, plan_text}
use Rattle.report.specs.Report.{Report, table_words, answer_in, report_of, text_after}
use Rattle.writer.specs.Written.{Wrote}
use Rattle.printout.specs.Printout.{printout_for, printout}

-- A refusal's number, line and field are small.
abbrev Small : Answer → Type 0
Small (refused f) = (number_of f ≤ 9) × (line_of f ≤ end_line) × (field_of f ≤ 11)
Small (found s n a o) = Unit

answer_small : (t : List ℕ) → Small (answer_in t)
unfolding answer_in
answer_small t =
    answer_ways Small (omega arith, omega arith, omega arith) (omega arith, omega arith, omega arith) t table_words jobs_max
    (λ f h. let w = read_refused t f h in (omega (arith, w.number), w.line, w.field)) (λ e h. (omega arith, omega arith, omega arith)) (λ e. tt)

-- What an R line's room rests on.
pub record Short (r : Report) : Type 0 where
  pub number : r.refusal ≤ 10
  pub line : r.line ≤ end_line
  pub field : r.field ≤ 11

module _ (t text text' : List ℕ) (room : text_least ≤ length text) (r : Report) where
  text_stands : (a : Answer) → Small a → r ≡ report_of t (length text) a → text' ≡ text_after t a text → r.refusal ≡ 0 → r.length ≤ text_least →
      Wrote text 0 (printout_for t a) text' r.length
  text_stands (refused f) n e w z most = absurd (omega (arith, number_bounds f, ap (λ (x : Report). x.refusal) e))
  text_stands (found s k a (planned js)) n e w z most =
      let q : r ≡ record { refusal = 0; line = 0; field = 0; length = length (plan_text t s js) } = rw (le-ltb (length text) text_least room) at e in
      let l : r.length ≡ length (plan_text t s js) = ap (λ (x : Report). x.length) q in
      let y : length (plan_text t s js) ≡ 0 + length (plan_text t s js) = omega arith in
      let u : text' ≡ plan_text t s js ++ drop (length (plan_text t s js)) text = rw (le-ltb (length text) text_least room) at w in
      record { room = omega (arith, l, most, room); bytes = u ∙ ap (λ (i : ℕ). plan_text t s js ++ drop i text) y; place = omega (arith, l) }
  text_stands (found s k a no_plan) n e w z most =
      let q : r ≡ record { refusal = 10; line = 0; field = 0; length = 0 } = rw (le-ltb (length text) text_least room) at e in
      absurd (omega (arith, ap (λ (x : Report). x.refusal) q))

  -- "no plan" and the refusals before it leave the part.
  line_due : (a : Answer) → Small a → r ≡ report_of t (length text) a → text' ≡ text_after t a text → ¬ (r.refusal ≡ 0) →
      Short r × ((text' ≡ text) × (refusal_line r.refusal r.line r.field ≡ printout_for t a))
  line_due (refused f) n e w z = rw e (record { number = omega (arith, n); line = n.1; field = n.2 }, (w, refl))
  line_due (found s k a (planned js)) n e w z =
      let q : r ≡ record { refusal = 0; line = 0; field = 0; length = length (plan_text t s js) } = rw (le-ltb (length text) text_least room) at e in
      absurd (z (ap (λ (x : Report). x.refusal) q))
  line_due (found s k a no_plan) n e w z =
      let q : r ≡ record { refusal = 10; line = 0; field = 0; length = 0 } = rw (le-ltb (length text) text_least room) at e in
      let u : text' ≡ text = rw (le-ltb (length text) text_least room) at w in
      rw q (record { number = omega arith; line = omega arith; field = omega arith }, (u, refl))

  module _ (e : r ≡ report_of t (length text) (answer_in t)) (w : text' ≡ text_after t (answer_in t) text) where
    pub printed_plan : r.refusal ≡ 0 → r.length ≤ text_least → Wrote text 0 (printout t) text' r.length
    unfolding printout
    printed_plan z most = text_stands (answer_in t) (answer_small t) e w z most

    module _ (z : ¬ (r.refusal ≡ 0)) where
      pub printed_short : Short r
      printed_short = (line_due (answer_in t) (answer_small t) e w z).0

      pub printed_line : (new : List ℕ) (n : ℕ) → Wrote text' 0 (refusal_line r.refusal r.line r.field) new n → Wrote text 0 (printout t) new n
      unfolding printout
      printed_line new n v = let d = line_due (answer_in t) (answer_small t) e w z in rw (d.1.0, d.1.1) at v
