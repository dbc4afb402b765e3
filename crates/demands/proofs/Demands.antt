-- The three demands in words follow from the equations for the reply and the part.
-- Assumes nothing.
use mathlib.Core.Logic.{◌⊎◌, inl, inr, ⊎_elim}
use mathlib.Core.Path.{◌≡◌, refl, sym, ap, ◌∙◌}
use mathlib.Core.List.{List}
use Prim.Native.Nat.{ℕ, ◌≤◌, ◌<◌}
use native.Mathlib.Omega.{arith}
use lib.ListN.{length, take, drop}
use lib.Seq.{take_at}
use Rattle.frame.specs.Sheet.{Sheet, Between, Ranges}
use Rattle.frame.specs.Run.{State, start, exact_run}
use Rattle.frame.specs.Limits.{Limits, tightened}
use Rattle.frame.specs.Demands as frame
use Rattle.frame.specs.Demands.{Outcome, planned, no_plan, Figures, figures}
use Rattle.frame.specs.Plan.{frame_outcome}
use Rattle.frame.specs.Table.{need, words_max}
use Rattle.frame.proofs.Demand3.{frame_demand2, frame_demand3}
use Rattle.refusal.specs.declared.Refusal.{Refusal}
use Rattle.refusal.specs.Code.{number_of, line_of, field_of}
use Rattle.refusal.proofs.Apart.{accepted_refused}
use Rattle.sheet.specs.Reading.{reading_of, sheet_in}
use Rattle.sheet.proofs.Ranges.{read_ranges}
use Rattle.checks.specs.Checks.{lack_of}
use Rattle.checks.proofs.Checks.{lack_cases}
use Rattle.reply.specs.Reply.{Reply, refused_reply, planned_as}
use Rattle.reply.specs.Answer.{Answer, refused, found, Answers}
use Rattle.std.specs.Prelude.{Option, Some, None}
use Rattle.reply.proofs.Peak.{peak_between}
use Rattle.demands.specs.Order.{frame_found, unless, answer_for, answer_by, answer_of}
use Rattle.demands.specs.Demands.{Enough, Memory, Demand3, FrameDemands, Demands}

module _ {s : Sheet} {k : Limits} {n : ℕ} {a : State} {passed : Type 0} {part : List ℕ} {r : Reply} where
  -- ---- refused before looking: nothing is said of a plan

  pub unlooked : ¬ passed → r ≡ refused_reply r.refusal 0 0 → ¬ (r.refusal ≡ 0) → ¬ (r.refusal ≡ 10) → Demand3 s k n a passed part r
  unlooked u z o t =
      record {
        answer =
            record {
              ten = ((λ q. absurd (t q)), (λ q. absurd (u q.0)));
              plan = ((λ q. absurd (o q)), (λ q. absurd (u q.0)));
              best = λ q. absurd (o q);
              peak = λ q. absurd (o q);
              place = λ q. absurd (o q);
              zeros = λ q. z;
            };
        levels = λ q. absurd (o q);
        meets = λ q. absurd (o q);
        figures = λ q. absurd (o q);
        no_slower = λ q. absurd (o q);
        no_plan = λ q. absurd (t q);
      }

  -- ---- looked: a plan, or none

  module _ (w : passed) where
    on_plan : (js : List ℕ) → frame.Best s n a js → frame.Sound s k n a js →
        take n part ≡ js → r ≡ planned_as (figures s a js) r.peak → Between (exact_run s a js).peak s.temperature_limit r.peak →
        Demand3 s k n a passed part r
    unfolding figures
    on_plan js b d p z v =
        let e = ap (λ (q : Reply). q.refusal) z in
        let f : record { time = r.time; energy = r.energy; temperature = r.temperature } ≡ figures s a js = ap (λ (q : Reply). record { time = q.time; energy = q.energy; temperature = q.temperature }) z in
        record {
          answer =
              record {
                ten = ((λ q. absurd (omega arith)), (λ q. absurd (q.1 js b.keeps)));
                plan = ((λ q. (w, (js, b.keeps))), (λ q. e));
                best = λ q. rw p b;
                peak = λ q. rw p v;
                place = λ q. (ap (λ (x : Reply). x.line) z, ap (λ (x : Reply). x.field) z);
                zeros = λ q. absurd (q e);
              };
          levels = λ q. rw p d.levels;
          meets = λ q. rw p d.meets;
          figures = λ q. rw p f;
          no_slower = λ q xs t. omega (arith, ap (λ (z : Figures). z.time) f, d.no_slower xs t);
          no_plan = λ q. absurd (omega arith);
        }

    on_none : ((js : List ℕ) → ¬ frame.Keeps s s.deadline n a js) → ((js : List ℕ) → ¬ frame.Tight s k n a js) →
        r ≡ refused_reply 10 0 0 → Demand3 s k n a passed part r
    on_none b d z =
        let e = ap (λ (q : Reply). q.refusal) z in
        record {
          answer =
              record {
                ten = ((λ q. (w, b)), (λ q. e));
                plan = ((λ q. absurd (omega arith)), (λ q. absurd (b q.1.0 q.1.1)));
                best = λ q. absurd (omega arith);
                peak = λ q. absurd (omega arith);
                place = λ q. absurd (omega arith);
                zeros = λ q. rw z refl;
              };
          levels = λ q. absurd (omega arith);
          meets = λ q. absurd (omega arith);
          figures = λ q. absurd (omega arith);
          no_slower = λ q. absurd (omega arith);
          no_plan = λ q. d;
        }

-- What is found is a plan or 10.
pub on_found : (s : Sheet) (k : Limits) (n : ℕ) (a : State) {passed : Type 0} (o : Outcome) {words words' bytes bytes' : List ℕ} {r : Reply} → passed →
    frame.OutcomeDemand2 s n a o → frame.OutcomeDemand3 s k n a o → Answers (found s n a o) words words' bytes bytes' r →
    Demand3 s k n a passed bytes' r × ((x : ℕ) → ¬ (x ≡ 0) → ¬ (x ≡ 10) → ¬ (r.refusal ≡ x))
on_found s k n a (planned js) {words} {words'} {bytes} {bytes'} {r} w b d h = (
  on_plan w js b d (ap (take n) h.part ∙ take_at js (drop n bytes) n b.keeps.levels.size) h.reply (peak_between s n a js words words' bytes bytes' r h),
  λ x u v q. u (sym q ∙ ap (λ (q : Reply). q.refusal) h.reply),
)
on_found s k n a no_plan w b d h = (on_none w b d h.reply, λ x u v q. v (sym q ∙ ap (λ (q : Reply). q.refusal) h.reply))

-- ---- what is lent

-- Something is lacking.
pub record Lacks (s : Sheet) (n words bytes : ℕ) (r : Reply) : Type 0 where
  pub memory : Memory s n words bytes r
  pub short : ¬ Enough s n words bytes
  pub low : 7 ≤ r.refusal
  pub high : r.refusal ≤ 9
  pub zeros : r ≡ refused_reply r.refusal 0 0

module _ {s : Sheet} {n words bytes : ℕ} {r : Reply} where
  -- Nothing is lacking, and the answer is another.
  pub memory_enough : Enough s n words bytes → ((x : ℕ) → 7 ≤ x → x ≤ 9 → ¬ (r.refusal ≡ x)) → Memory s n words bytes r
  memory_enough w u =
      record {
        seven = ((λ q. absurd (u 7 (omega arith) (omega arith) q)), (λ q. absurd (omega (arith, w.size))));
        eight = ((λ q. absurd (u 8 (omega arith) (omega arith) q)), (λ q. absurd (omega (arith, w.table, q.1))));
        nine = ((λ q. absurd (u 9 (omega arith) (omega arith) q)), (λ q. absurd (omega (arith, w.part, q.2))));
      }

  on_seven : words_max < need s → r ≡ refused_reply 7 0 0 → Lacks s n words bytes r
  on_seven h z =
      let e = ap (λ (q : Reply). q.refusal) z in
      record {
        memory =
            record {
              seven = ((λ q. h), (λ q. e));
              eight = ((λ q. absurd (omega arith)), (λ q. absurd (omega (arith, q.0))));
              nine = ((λ q. absurd (omega arith)), (λ q. absurd (omega (arith, q.0))));
            };
        short = λ w. omega (arith, w.size);
        low = omega arith;
        high = omega arith;
        zeros = rw z refl;
      }

  on_eight : need s ≤ words_max → words < need s → r ≡ refused_reply 8 0 0 → Lacks s n words bytes r
  on_eight g h z =
      let e = ap (λ (q : Reply). q.refusal) z in
      record {
        memory =
            record {
              seven = ((λ q. absurd (omega arith)), (λ q. absurd (omega arith)));
              eight = ((λ q. (g, h)), (λ q. e));
              nine = ((λ q. absurd (omega arith)), (λ q. absurd (omega (arith, q.1))));
            };
        short = λ w. omega (arith, w.table);
        low = omega arith;
        high = omega arith;
        zeros = rw z refl;
      }

  on_nine : need s ≤ words_max → need s ≤ words → bytes < n → r ≡ refused_reply 9 0 0 → Lacks s n words bytes r
  on_nine f g h z =
      let e = ap (λ (q : Reply). q.refusal) z in
      record {
        memory =
            record {
              seven = ((λ q. absurd (omega arith)), (λ q. absurd (omega arith)));
              eight = ((λ q. absurd (omega arith)), (λ q. absurd (omega (arith, q.1))));
              nine = ((λ q. (f, g, h)), (λ q. e));
            };
        short = λ w. omega (arith, w.part);
        low = omega arith;
        high = omega arith;
        zeros = rw z refl;
      }

  -- Something is lacking, or it is answered what comes after.
  pub lack_split : (after : Answer) {words₀ words' bytes₀ bytes' : List ℕ} → Answers (unless (lack_of (need s) n words bytes) after) words₀ words' bytes₀ bytes' r →
      Lacks s n words bytes r ⊎ (Enough s n words bytes × Answers after words₀ words' bytes₀ bytes' r)
  lack_split after {words₀} {words'} {bytes₀} {bytes'} =
      lack_cases
      (λ c. Answers (unless c after) words₀ words' bytes₀ bytes' r → Lacks s n words bytes r ⊎ (Enough s n words bytes × Answers after words₀ words' bytes₀ bytes' r))
      (need s) n words bytes
      (λ h z. inl (on_seven h z.reply))
      (λ g h z. inl (on_eight g h z.reply))
      (λ f g h z. inl (on_nine f g h z.reply))
      (λ f g h z. inr (record { size = f; table = g; part = h }, z))

-- ---- the sheet's own frame

on_frame : (s : Sheet) → Ranges s → (n : ℕ) (words words' bytes bytes' : List ℕ) (r : Reply) →
    Answers (answer_for s n (length bytes)) words words' bytes bytes' r → FrameDemands s n (length bytes) bytes' r
unfolding answer_for
on_frame s ok n words words' bytes bytes' r a =
    ⊎_elim
    (λ l. record { memory = l.memory; found = unlooked l.short l.zeros (λ q. omega (arith, l.low)) (λ q. omega (arith, l.high)) })
    (λ w.
    let f = on_found s (tightened s) s.jobs (start s) (frame_outcome s) w.0 (frame_demand2 s ok) (frame_demand3 s ok) w.1 in
    record { memory = memory_enough w.0 (λ x l h. f.1 x (λ q. omega arith) (λ q. omega arith)); found = f.0 })
    (lack_split (frame_found s) a)

-- ---- every sheet

-- A sheet is refused for the first check of 1 to 6 that it fails, or else answered by its figures.
pub by_reading : (sheet : List ℕ) (answer : Sheet → Answer) {words words' bytes bytes' : List ℕ} {r : Reply} → Answers (answer_by (reading_of sheet) answer) words words' bytes bytes' r →
    ((f : Refusal) → (reading_of sheet).refusal ≡ Some f → r ≡ refused_reply (number_of f) (line_of f) (field_of f)) ×
    ((reading_of sheet).refusal ≡ None → Ranges (sheet_in sheet) × Answers (answer (sheet_in sheet)) words words' bytes bytes' r)
unfolding answer_by
by_reading sheet answer {words} {words'} {bytes} {bytes'} {r} a = (
  λ f h. let b : Answers (refused f) words words' bytes bytes' r = rw (accepted_refused refused (answer (sheet_in sheet)) h) at a in b.reply,
  λ e. (read_ranges sheet e, rw (ap (λ (o : Option Refusal). unless o (answer (sheet_in sheet))) e) at a),
)

pub demands_hold : (sheet words words' bytes bytes' : List ℕ) (r : Reply) →
    Answers (answer_of sheet (length words) (length bytes)) words words' bytes bytes' r → Demands sheet (length words) (length bytes) bytes' r
unfolding answer_of
demands_hold sheet words words' bytes bytes' r a =
    let d = by_reading sheet (λ s. answer_for s (length words) (length bytes)) a in
    record {
      fails = d.0;
      passes = λ e. on_frame (sheet_in sheet) (d.1 e).0 (length words) words words' bytes bytes' r (d.1 e).1;
    }
