-- The demands on a frame planned afresh follow from the equations for the reply and the part, and the promise of a kept plan from the
-- theorem on the runs.
-- Assumes nothing.
use mathlib.Core.Logic.{◌↔◌, ◌⊎◌, inl, inr, ⊎_elim}
use mathlib.Core.Path.{◌≡◌, refl, sym, ap, ◌∙◌}
use mathlib.Core.List.{List}
use Prim.Native.Nat.{ℕ, ◌≤◌, ◌<◌}
use native.Mathlib.Omega.{arith}
use lib.ListN.{length, drop}
use Rattle.frame.specs.Sheet.{Sheet, Ranges}
use Rattle.frame.specs.Run.{State, start}
use Rattle.frame.specs.Demands.{Best, end_time, Figures, figures}
use Rattle.frame.specs.Plan.{outcome}
use Rattle.frame.specs.Afresh.{InRange, Readable, jobs_left, tightened_left, Kept}
use Rattle.frame.proofs.Afresh.{left_demand2, left_demand3, spent_keeps, late_keeps, kept_readable, kept_rest}
use Rattle.sheet.specs.Reading.{sheet_in}
use Rattle.checks.specs.Checks.{fault_of}
use Rattle.checks.proofs.Checks.{fault_cases}
use Rattle.reply.specs.Reply.{Reply, refused_reply}
use Rattle.reply.specs.Answer.{Answer, found_from, Answers}
use Rattle.demands.specs.Order.{unless, afresh_for, afresh_of}
use Rattle.demands.specs.Demands.{Enough, Demand3}
use Rattle.demands.specs.Afresh.{Passed, LeftDemands, AfreshDemands}
use Rattle.demands.proofs.Demands.{unlooked, on_found, Lacks, memory_enough, lack_split, by_reading}

-- ---- what is read

-- The reading is refused.
record Faults (s : Sheet) (a : State) (r : Reply) : Type 0 where
  pub thirteen : (r.refusal ≡ 13) ↔ (s.jobs ≤ a.done)
  pub fourteen : (r.refusal ≡ 14) ↔ ((a.done < s.jobs) × ¬ InRange s a)
  pub five : (r.refusal ≡ 5) ↔ ((a.done < s.jobs) × InRange s a × (s.temperature_limit < a.temperature))
  pub unread : ¬ Readable s a
  pub no_other : (x : ℕ) → ¬ (x ≡ 5) → x ≤ 12 → ¬ (r.refusal ≡ x)
  pub zeros : r ≡ refused_reply r.refusal 0 0

module _ {s : Sheet} {a : State} {r : Reply} where
  on_done : s.jobs ≤ a.done → r ≡ refused_reply 13 0 0 → Faults s a r
  on_done h z =
      let e = ap (λ (q : Reply). q.refusal) z in
      record {
        thirteen = ((λ q. h), (λ q. e));
        fourteen = ((λ q. absurd (omega arith)), (λ q. absurd (omega (arith, q.0))));
        five = ((λ q. absurd (omega arith)), (λ q. absurd (omega (arith, q.0))));
        unread = λ w. omega (arith, w.done);
        no_other = λ x u l q. omega arith;
        zeros = rw z refl;
      }

  on_range : a.done < s.jobs → ¬ InRange s a → r ≡ refused_reply 14 0 0 → Faults s a r
  on_range g h z =
      let e = ap (λ (q : Reply). q.refusal) z in
      record {
        thirteen = ((λ q. absurd (omega arith)), (λ q. absurd (omega arith)));
        fourteen = ((λ q. (g, h)), (λ q. e));
        five = ((λ q. absurd (omega arith)), (λ q. absurd (h q.1)));
        unread = λ w. h w.range;
        no_other = λ x u l q. omega arith;
        zeros = rw z refl;
      }

  on_hot : a.done < s.jobs → InRange s a → s.temperature_limit < a.temperature → r ≡ refused_reply 5 0 0 → Faults s a r
  on_hot f g h z =
      let e = ap (λ (q : Reply). q.refusal) z in
      record {
        thirteen = ((λ q. absurd (omega arith)), (λ q. absurd (omega arith)));
        fourteen = ((λ q. absurd (omega arith)), (λ q. absurd (q.1 g)));
        five = ((λ q. (f, g, h)), (λ q. e));
        unread = λ w. omega (arith, w.temperature);
        no_other = λ x u l q. u (sym q ∙ e);
        zeros = rw z refl;
      }

  -- The reading is refused, or it is answered what comes after.
  fault_split : (after : Answer) {words words' bytes bytes' : List ℕ} → Answers (unless (fault_of s a) after) words words' bytes bytes' r →
      Faults s a r ⊎ (Readable s a × Answers after words words' bytes bytes' r)
  fault_split after {words} {words'} {bytes} {bytes'} =
      fault_cases
      (λ c. Answers (unless c after) words words' bytes bytes' r → Faults s a r ⊎ (Readable s a × Answers after words words' bytes bytes' r))
      s a
      (λ h z. inl (on_done h z.reply))
      (λ g h z. inl (on_range g h z.reply))
      (λ f g h z. inl (on_hot f g h z.reply))
      (λ f g h z. inr (record { done = f; range = g; temperature = h }, z))

-- ---- what is found

module _ {s : Sheet} (ok : Ranges s) {a : State} (new : a.peak ≡ 0) {words bytes : ℕ} {part : List ℕ} {r : Reply}
    (d : Demand3 s (tightened_left s (jobs_left s a)) (jobs_left s a) a (Passed s a words bytes) part r) where
  past_holds : Passed s a words bytes → (s.energy_budget < a.energy) ⊎ (s.deadline < a.time) → r.refusal ≡ 10
  past_holds w h =
      let some : 1 ≤ jobs_left s a = omega (arith, w.1.done) in
      let cool : a.peak ≤ s.temperature_limit = omega arith in
      d.answer.ten.1
      (w, λ js k. ⊎_elim (λ e. spent_keeps s ok (jobs_left s a) some a cool js e k) (λ e. late_keeps s ok (jobs_left s a) some a cool js e k) h)

  -- A list for the m jobs left from b, of which n were done as it has them.
  kept_holds : (b : State) → b.level < s.levels → b.temperature ≤ s.temperature_limit → b.peak ≡ 0 → (m : ℕ) → m ≡ jobs_left s b → (js : List ℕ) → Best s m b js →
      (n : ℕ) → Kept s b js n a → Enough s (jobs_left s a) words bytes → (r.refusal ≡ 0) × (r.time ≤ end_time s b js)
  unfolding figures
  kept_holds b l t p m e js best n k w =
      let size = best.keeps.levels.size in
      let read = kept_readable s ok b m e js size n a new k l t (omega arith) best.keeps in
      let rest = kept_rest s ok b m e js size n a new k s.deadline best.keeps in
      let z = d.answer.plan.1 ((w, read), (drop n js, rest.0)) in
      (z, omega (arith, ap (λ (f : Figures). f.time) (d.figures z), (d.answer.best z).least (drop n js) rest.0, rest.1))

  kept_first : (js : List ℕ) → Best s s.jobs (start s) js → Kept s (start s) js a.done a → Enough s (jobs_left s a) words bytes → (r.refusal ≡ 0) × (r.time ≤ end_time s (start s) js)
  kept_first js best k w = kept_holds (start s) ok.start_level ok.cool refl s.jobs (omega arith) js best a.done k w

  kept_again : (b : State) → Readable s b → b.peak ≡ 0 → (js : List ℕ) → Best s (jobs_left s b) b js → (n : ℕ) → Kept s b js n a →
      Enough s (jobs_left s a) words bytes → (r.refusal ≡ 0) × (r.time ≤ end_time s b js)
  kept_again b h p js best n k w = kept_holds b h.range.level h.temperature p (jobs_left s b) refl js best n k w

-- ---- the answer's own cases

module _ (s : Sheet) (ok : Ranges s) (a : State) (new : a.peak ≡ 0) (n : ℕ) (words words' bytes bytes' : List ℕ) (r : Reply) where
  abbrev holds : Type 0
  holds = LeftDemands s a n (length bytes) bytes' r

  abbrev answered : Type 0
  answered = Demand3 s (tightened_left s (jobs_left s a)) (jobs_left s a) a (Passed s a n (length bytes)) bytes' r

  on_lack : Lacks s (jobs_left s a) n (length bytes) r → holds
  on_lack l =
      let f : answered = unlooked (λ w. l.short w.0) l.zeros (λ q. omega (arith, l.low)) (λ q. omega (arith, l.high)) in
      record {
        memory = l.memory;
        thirteen = ((λ q. absurd (omega (arith, l.high))), (λ q. absurd (l.short q.0)));
        fourteen = ((λ q. absurd (omega (arith, l.high))), (λ q. absurd (l.short q.0)));
        five = ((λ q. absurd (omega (arith, l.low))), (λ q. absurd (l.short q.0)));
        found = f;
        past = past_holds ok new f;
        kept = kept_first ok new f;
        kept_afresh = kept_again ok new f;
      }

  module _ (w : Enough s (jobs_left s a) n (length bytes)) where
    on_fault : Faults s a r → holds
    on_fault l =
        let f : answered = unlooked (λ p. l.unread p.1) l.zeros (l.no_other 0 (λ q. omega arith) (omega arith)) (l.no_other 10 (λ q. omega arith) (omega arith)) in
        record {
          memory = memory_enough w (λ x u v. l.no_other x (λ q. omega arith) (omega arith));
          thirteen = ((λ q. (w, l.thirteen.0 q)), (λ q. l.thirteen.1 q.1));
          fourteen = ((λ q. let h = l.fourteen.0 q in (w, h.0, h.1)), (λ q. l.fourteen.1 (q.1, q.2)));
          five = ((λ q. let h = l.five.0 q in (w, h.0, h.1, h.2)), (λ q. l.five.1 (q.1, q.2, q.3)));
          found = f;
          past = past_holds ok new f;
          kept = kept_first ok new f;
          kept_afresh = kept_again ok new f;
        }

    on_readable : Readable s a → Answers (found_from s a) words words' bytes bytes' r → holds
    on_readable t h =
        let some : 1 ≤ jobs_left s a = omega (arith, t.done) in
        let cool : a.peak ≤ s.temperature_limit = omega arith in
        let both : Passed s a n (length bytes) = (w, t) in
        let f =
        on_found s (tightened_left s (jobs_left s a)) (jobs_left s a) a (outcome s (jobs_left s a) a) both
        (left_demand2 s ok (jobs_left s a) some a cool) (left_demand3 s ok (jobs_left s a) some a cool) h in
        record {
          memory = memory_enough w (λ x u v. f.1 x (λ q. omega arith) (λ q. omega arith));
          thirteen = ((λ q. absurd (f.1 13 (λ e. omega arith) (λ e. omega arith) q)), (λ q. absurd (omega (arith, t.done, q.1))));
          fourteen = ((λ q. absurd (f.1 14 (λ e. omega arith) (λ e. omega arith) q)), (λ q. absurd (q.2 t.range)));
          five = ((λ q. absurd (f.1 5 (λ e. omega arith) (λ e. omega arith) q)), (λ q. absurd (omega (arith, t.temperature, q.3))));
          found = f.0;
          past = past_holds ok new f.0;
          kept = kept_first ok new f.0;
          kept_afresh = kept_again ok new f.0;
        }

  on_left : Answers (afresh_for s a n (length bytes)) words words' bytes bytes' r → holds
  unfolding afresh_for
  on_left h =
      ⊎_elim on_lack (λ w. ⊎_elim (on_fault w.0) (λ t. on_readable w.0 t.0 t.1) (fault_split (found_from s a) w.1))
      (lack_split (unless (fault_of s a) (found_from s a)) h)

-- ---- every sheet

pub afresh_hold : (sheet : List ℕ) (a : State) → a.peak ≡ 0 → (words words' bytes bytes' : List ℕ) (r : Reply) →
    Answers (afresh_of sheet a (length words) (length bytes)) words words' bytes bytes' r → AfreshDemands sheet a (length words) (length bytes) bytes' r
unfolding afresh_of
afresh_hold sheet a new words words' bytes bytes' r h =
    let d = by_reading sheet (λ s. afresh_for s a (length words) (length bytes)) h in
    record {
      fails = d.0;
      passes = λ e. on_left (sheet_in sheet) (d.1 e).0 a new (length words) words words' bytes bytes' r (d.1 e).1;
    }
