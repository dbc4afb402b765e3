-- How far the Q lines of a plan are written: the run, the next J line, and what is left to write, by induction over the jobs.
-- Assumes nothing.
use mathlib.Core.Path.{◌≡◌, refl, sym, ap, ◌∙◌}
use mathlib.Core.List.{List, ◌∷◌, ◌++◌}
use Prim.Native.Nat.{ℕ, suc, ◌+◌, ◌*◌, ◌≤◌, ◌<◌}
use native.Mathlib.Nat.{add-mul, one-mul}
use native.Mathlib.Numerals.{add-one}
use native.Mathlib.Omega.{arith}
use lib.ListN.{length, get_or, take, drop, drop_of_length-le}
use lib.Seq.{drop-cons, get_or-take, length-take-le}
use Rattle.frame.specs.Sheet.{Sheet}
use Rattle.frame.specs.Run.{State, start, step, exact_run}
use Rattle.frame.specs.Demands.{figures}
use Rattle.store.specs.declared.Store.{Store}
use Rattle.store.specs.declared.sheet.ReadSheet.{ReadSheet}
use Rattle.store.specs.Store.{jobs_max, levels_max}
use Rattle.store.specs.Figures.{sheet_of}
use Rattle.store.specs.Sheet.{sheet_read}
use Rattle.run.specs.Run.{state_of}
use Rattle.run.specs.declared.Run.{Run}
use Rattle.run.proofs.Small.{Small, small_start, small_step}
use Rattle.body.specs.Body.{job_lines, lines_before}
use Rattle.sheet.specs.Reading.{SheetRead}
use Rattle.step.specs.Store.{Stored, Rests}
use Rattle.step.proofs.Store.{rests}
use Rattle.step.proofs.Levels.{step_level}
use Rattle.name_places.specs.Place.{skip, next_name}
use Rattle.name_places.proofs.Place.{skip_add}
use Rattle.names.specs.Name.{name_at, name_of}
use Rattle.names.proofs.Name.{name_some}
use Rattle.names.proofs.Forms.{job_name_short}
use Rattle.writer.specs.declared.Writer.{Writer}
use Rattle.writer.specs.Written.{Writes, Room}
use Rattle.writer.proofs.Written.{wrote_none, moved, writes_both}
use Rattle.plan_lines.specs.Lines.{plan_line, job_line, job_line_max}
use Rattle.plan_text.specs.Text.{job_text_from, plan_text}
use Rattle.plan_text.specs.Handed.{Handed, Ended}

-- One Q line, and the rest.
one_line : (name : ℕ → List ℕ) (s : Sheet) (i : ℕ) (a b : State) (j : ℕ) (js : List ℕ) → b ≡ step s a j →
    job_text_from name s i a (j ∷ js) ≡ job_line (name i) j b.time b.energy b.temperature ++ job_text_from name s (i + 1) b js
unfolding job_text_from
one_line name s i a b j js e = rw (add-one, e) refl

-- The Q lines of i jobs are written.
pub record Writing (t : List ℕ) (p : ReadSheet) (levels : List ℕ) (old new : Writer) (run : Run) (left : List ℕ) (i : ℕ) : Type 0 where
  pub most : i ≤ p.head.jobs
  pub long : length new.part.now ≡ length old.part.now
  pub small : Small i (state_of run)
  pub level : run.level < levels_max
  pub reached : left ≡ skip (lines_before p.head.levels i) t
  pub far : new.at ≤ old.at + i * job_line_max
  pub rest : (z : Writer) → Writes new z (job_text_from (name_of t) (sheet_read p) i (state_of run) (drop i (take p.head.jobs levels))) →
      Writes old z (job_text_from (name_of t) (sheet_read p) 0 (start (sheet_read p)) (take p.head.jobs levels))

module _ {t : List ℕ} {p : ReadSheet} {levels : List ℕ} (w : Handed t p levels) where
  pub jobs_most : p.head.jobs ≤ jobs_max
  unfolding sheet_of
  jobs_most = p.ranges.jobs.high

  pub levels_most : p.head.levels ≤ levels_max
  unfolding sheet_of
  levels_most = p.ranges.levels.high

  -- The levels of the sheet's jobs.
  module _ {i : ℕ} where
    pub job_here : i < length (take p.head.jobs levels) → i < p.head.jobs
    job_here k = omega (arith, length-take-le p.head.jobs levels w.each)

    pub level_here : i < p.head.jobs → get_or (take p.head.jobs levels) i 0 ≡ get_or levels i 0
    level_here k = get_or-take p.head.jobs levels i 0 k

  pub writing_start : (old : Writer) (run : Run) (left : List ℕ) (n : ℕ) → state_of run ≡ start (sheet_read p) → n ≡ lines_before p.head.levels 0 →
      left ≡ skip n t → Writing t p levels old old run left 0
  unfolding sheet_of
  writing_start old run left n e m d =
      record {
        most = omega arith;
        long = refl;
        small = rw e (small_start p.ranges);
        level = omega (arith, ap (λ (a : State). a.level) e, p.ranges.start_level, p.ranges.levels.high);
        reached = d ∙ ap (λ (x : ℕ). skip x t) m;
        far = omega arith;
        rest = λ z u. rw (sym e) u;
      }

  module _ {old new : Writer} {run : Run} {left : List ℕ} {i : ℕ} (g : Writing t p levels old new run left i) where
    module _ (l : i < p.head.jobs) where
      -- The next step's own needs.
      pub writing_rests : {words : Store} {steady : List ℕ} → Stored (sheet_read p) words steady → Rests run words steady (get_or levels i 0)
      unfolding sheet_of
      writing_rests v =
          let m = p.ranges.jobs.high in
          rests v run _ p.ranges (omega (arith, g.small.done, m)) g.level (w.below i l) (omega (arith, g.small.time, m)) (omega (arith, g.small.energy, m)) (omega (arith, g.small.temperature))

      -- The line that is reached has the job's name.
      pub name_here : next_name left ≡ name_of t i
      unfolding name_at
      name_here = ap next_name g.reached ∙ sym (name_some t i _ w.read l)

      module _ (b : Run) (x : state_of b ≡ step (sheet_read p) (state_of run) (get_or levels i 0)) where
        -- The job has a Q line.
        pub writing_ended : Room old (p.head.jobs * job_line_max) → Ended left new b
        unfolding sheet_of
        writing_ended room =
            let m = p.ranges.jobs.high in
            let v : Small (suc i) (state_of b) = rw x (small_step p.ranges (get_or levels i 0) g.small) in
            let e = w.read in
            let n = job_name_short t i (ap (λ (r : SheetRead). r.refusal) (sym e)) (omega (arith, ap (λ (r : SheetRead). r.head.jobs) e)) in
            record {
              name = omega (arith, ap length name_here, n);
              room = omega (arith, g.far, g.long);
              time = omega (arith, v.time);
              energy = omega (arith, v.energy);
              temperature = omega (arith, v.temperature);
            }

        pub writing_next : (next : Writer) (left' : List ℕ) (n : ℕ) →
            Writes new next (job_line (next_name left) b.level b.time b.energy b.temperature) → next.at ≤ new.at + job_line_max →
            n ≡ job_lines p.head.levels → left' ≡ skip n left → Writing t p levels old next b left' (i + 1)
        writing_next next left' n u f k d =
            let j = get_or levels i 0 in
            let js = take p.head.jobs levels in
            let s = sheet_read p in
            let v : b.level ≡ j = ap (λ (a : State). a.level) x ∙ step_level s (state_of run) j in
            let o : lines_before p.head.levels i + n ≡ lines_before p.head.levels (i + 1) = omega (arith, add-mul i 1 (job_lines p.head.levels), one-mul (job_lines p.head.levels)) in
            let c : drop i js ≡ j ∷ drop (suc i) js =
            drop-cons js i 0 (omega (arith, length-take-le p.head.jobs levels w.each)) ∙ ap (λ (z : ℕ). z ∷ drop (suc i) js) (get_or-take p.head.jobs levels i 0 l) in
            record {
              most = omega arith;
              long = (moved u).long ∙ g.long;
              small = rw (add-one, x) (small_step p.ranges j g.small);
              level = omega (arith, v, w.below i l);
              reached = d ∙ ap (skip n) g.reached ∙ sym (skip_add (lines_before p.head.levels i) n t) ∙ ap (λ (z : ℕ). skip z t) o;
              far = omega (arith, g.far, f);
              rest = λ z r. g.rest z (rw (c, one_line (name_of t) s i (state_of run) (state_of b) j (drop (suc i) js) x, ← name_here, ← v, ← add-one i) (writes_both u r));
            }

    pub writing_end : p.head.jobs ≤ i → Room old (p.head.jobs * job_line_max) →
        Writes old new (job_text_from (name_of t) (sheet_read p) 0 (start (sheet_read p)) (take p.head.jobs levels)) × (new.at ≤ old.at + p.head.jobs * job_line_max)
    unfolding job_text_from
    writing_end l room =
        let f : new.at ≤ old.at + p.head.jobs * job_line_max = omega (arith, g.far, g.most) in
        let d : length (take p.head.jobs levels) ≤ i = omega (arith, length-take-le p.head.jobs levels w.each) in
        (g.rest new (rw (drop_of_length-le (take p.head.jobs levels) {i = i} d) (record { same_part = refl; wrote = wrote_none _ _ (omega (arith, g.long)) })), f)

-- A name that is handed over is the one on the line.
pub named_line : (old new : Writer) (name other : List ℕ) (level time energy temperature : ℕ) → name ≡ other →
    Writes old new (job_line name level time energy temperature) → Writes old new (job_line other level time energy temperature)
named_line old new name other level time energy temperature e w = rw e at w

-- The P line of a list's figures, and then its Q lines, are its text.
pub whole_text : (t : List ℕ) (s : Sheet) (js : List ℕ) (old mid new : Writer) (m : ℕ) (a : State) → m ≡ s.jobs → a ≡ exact_run s (start s) js →
    Writes old mid (plan_line m a.time a.energy a.temperature) → Writes mid new (job_text_from (name_of t) s 0 (start s) js) → Writes old new (plan_text t s js)
unfolding plan_text figures
whole_text t s js old mid new m a e f v w = writes_both (rw (e, f) at v) w
