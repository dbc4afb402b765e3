-- From the start's word and the walk's part to what was found, and from there to the answer.
-- Assumes nothing.
use mathlib.Core.Path.{◌≡◌, refl, sym, ap, ◌∙◌}
use mathlib.Core.List.{List, [], ◌∷◌, ◌++◌}
use Prim.Native.Nat.{ℕ, zero, suc, ◌+◌, ◌-◌, ◌≤◌, ◌<◌}
use native.Mathlib.Omega.{arith}
use Rattle.std.specs.Prelude.{Option, Some, None, Err}
use Rattle.std.proofs.lemmas.Option.{none-some}
use borrow.Author.Tests.{le-leb, lt-leb}
use lib.ListN.{length, get_or, take, drop, get_or-append}
use lib.Seq.{take_at}
use Rattle.frame.specs.Sheet.{Sheet, Ranges}
use Rattle.frame.specs.Run.{State, exact, exact_run}
use Rattle.frame.specs.Limits.{limits}
use Rattle.frame.specs.Demands.{Outcome, planned, no_plan, Below, OutcomeDemand2, figures}
use Rattle.frame.specs.Afresh.{Readable}
use Rattle.frame.specs.Plan.{least, plan, outcome}
use Rattle.frame.specs.Table.{need, filled}
use Rattle.frame.proofs.Run.{meets_peak}
use Rattle.frame.proofs.Slack.{rounded_sound}
use Rattle.frame.proofs.Afresh.{left_demand2, spent_none}
use Rattle.refusal.specs.declared.Refusal.{Refusal}
use Rattle.refusal.specs.declared.Refusal.TheVariants.{NoPlan}
use Rattle.run.specs.Run.{state_of}
use Rattle.run.specs.declared.Run.{Run}
use Rattle.table.specs.declared.axes.Frame.{Frame}
use Rattle.table.specs.declared.axes.HeadAxes.{HeadAxes}
use Rattle.table.specs.Table.{Axes, head_axes}
use Rattle.lookup.specs.Lookup.{Looks, rest_in}
use Rattle.lookup.proofs.Lookup.{same_axes, rest_is, rest_least, looks}
use Rattle.table.proofs.Cells.{filled_words}
use Rattle.walk.specs.Walk.{Starts}
use Rattle.reply.specs.Reply.{Reply, planned_as, reply_by}
use Rattle.reply.specs.Answer.{found, table_after, part_after, Answers}
use Rattle.solve.specs.Solve.{refusal_in, Finds}

-- ---- the start's word

module _ {s : Sheet} {f : Frame} (x : Axes s f) (b : Run) (w : Readable s (state_of b)) (u : b.energy ≤ s.energy_budget) where
  pub start_looks : {n : ℕ} → need s ≤ n → b.done < f.head.jobs → Looks (head_axes f) b n
  start_looks h d = looks (same_axes x) x.ranges x.allowed b w.range.level u w.temperature h d

  pub start_rest : (words words' : List ℕ) (k : ℕ) {g : HeadAxes} → need s ≤ length words → words' ≡ filled s words → g ≡ head_axes f → k ≡ rest_in g words' b →
      k ≡ least s (s.jobs - b.done) (state_of b)
  start_rest words words' k room t e q =
      rw e at q ∙ rest_is (same_axes x) b words' ∙ rest_least x.ranges (state_of b) (rw t (filled_words s words b.done room)) w.range.level u w.temperature

-- ---- what is found

module _ (s : Sheet) (n : ℕ) (a : State) where
  found_none : {words words' bytes bytes' : List ℕ} → outcome s n a ≡ no_plan → words' ≡ filled s words → bytes' ≡ bytes → Finds s n a words words' bytes bytes' (Some NoPlan)
  found_none {bytes = bytes} q w p =
      let o = sym q in
      record { plan = ap refusal_in o; table = w; part = p ∙ ap (λ (z : Outcome). part_after (found s n a z) bytes) o }

  -- Energy past its limit: no plan, and the table is filled all the same.
  pub finds_spent : {words words' bytes bytes' : List ℕ} → Ranges s → 1 ≤ n → a.peak ≤ s.temperature_limit → s.energy_budget < a.energy →
      words' ≡ filled s words → bytes' ≡ bytes → Finds s n a words words' bytes bytes' (Some NoPlan)
  finds_spent ok some cool h w p = found_none (spent_none s ok n some a cool h) w p

module _ (s : Sheet) (n : ℕ) (a : State) (k : ℕ) (e : k ≡ least s n a) where
  -- The deadline is compared with it alone.
  late : s.deadline < a.time + k → outcome s n a ≡ no_plan
  unfolding outcome
  late h = rw (lt-leb (a.time + least s n a) s.deadline (omega arith)) refl

  in_time : a.time + k ≤ s.deadline → outcome s n a ≡ planned (plan s n a)
  unfolding outcome
  in_time h = rw (le-leb (a.time + least s n a) s.deadline (omega arith)) refl

  pub finds_none : {words words' bytes bytes' : List ℕ} → s.deadline < a.time + k → words' ≡ filled s words → bytes' ≡ bytes → Finds s n a words words' bytes bytes' (Some NoPlan)
  finds_none h w p = found_none s n a (late h) w p

  pub finds_plan : {words words' bytes bytes' : List ℕ} → a.time + k ≤ s.deadline → words' ≡ filled s words → bytes' ≡ plan s n a ++ drop n bytes →
      Finds s n a words words' bytes bytes' None
  finds_plan {bytes = bytes} h w p =
      let o = sym (in_time h) in
      record { plan = ap refusal_in o; table = w; part = p ∙ ap (λ (z : Outcome). part_after (found s n a z) bytes) o }

-- What the walk rests on.
pub starts : {s : Sheet} {a : State} (k : ℕ) → Ranges s → Readable s a → a.energy ≤ s.energy_budget → k ≡ least s (s.jobs - a.done) a → a.time + k ≤ s.deadline → Starts s a
starts k ok w u e h =
    record {
      done = w.done;
      level = w.range.level;
      energy = u;
      temperature = w.temperature;
      way = omega (arith, ok.deadline);
    }

-- ---- the levels that the part holds

below_at : (l : ℕ) (js : List ℕ) (i : ℕ) → Below l js → i < length js → get_or js i 0 < l
below_at l [] i b h = absurd (omega arith)
below_at l (j ∷ js) zero b h = b.0
below_at l (j ∷ js) (suc i) b h = below_at l js i b.1 (omega arith)

-- ---- the answer, by what was found

module _ (s : Sheet) (n : ℕ) (a : State) (words words' bytes bytes' : List ℕ) where
  on_plan : (o : Outcome) → Ranges s → a.peak ≤ s.temperature_limit → OutcomeDemand2 s n a o → refusal_in o ≡ None → words' ≡ table_after (found s n a o) words →
      bytes' ≡ part_after (found s n a o) bytes → (c : State) (q : Reply) → c ≡ exact_run s a (take n bytes') →
      q ≡ planned_as (record { time = c.time; energy = c.energy; temperature = c.temperature }) c.peak → Answers (found s n a o) words words' bytes bytes' q
  unfolding figures
  on_plan (planned js) ok m b t w p c q e z =
      let d : c ≡ exact_run s a js = e ∙ ap (exact_run s a) (ap (take n) p ∙ take_at js (drop n bytes) n b.keeps.levels.size) in
      let k : q.peak ≡ (exact_run s a js).peak = ap (λ (x : Reply). x.peak) z ∙ ap (λ (x : State). x.peak) d in
      record {
        reply = rw (z, d) refl;
        table = w;
        part = p;
        peak = record { low = omega (arith, k); high = omega (arith, k, meets_peak s exact s.deadline js a m (rounded_sound s ok (limits s) js a b.keeps.meets)) };
      }
  on_plan no_plan ok m b t w p c q e z = absurd (none-some _ (sym t))

  pub on_levels : (o : Outcome) → OutcomeDemand2 s n a o → refusal_in o ≡ None → bytes' ≡ part_after (found s n a o) bytes → (i : ℕ) → i < n → get_or bytes' i 0 < s.levels
  on_levels (planned js) b t p i h =
      let k : i < length js = omega (arith, b.keeps.levels.size) in
      rw (p, get_or-append js (drop n bytes) 0 i k) (below_at s.levels js i b.keeps.levels.below k)
  on_levels no_plan b t p i h = absurd (none-some _ (sym t))

  on_none : (o : Outcome) (f : Refusal) → refusal_in o ≡ Some f → words' ≡ table_after (found s n a o) words → bytes' ≡ part_after (found s n a o) bytes →
      Answers (found s n a o) words words' bytes bytes' (reply_by (Err f))
  on_none (planned js) f t w p = absurd (none-some f t)
  on_none no_plan f t w p =
      let e : f ≡ NoPlan = cc t in
      rw e (record { reply = refl; table = w; part = p; peak = tt })

  module _ (r : Option Refusal) (w : Finds s n a words words' bytes bytes' r) where
    pub answers_none : (f : Refusal) → r ≡ Some f → Answers (found s n a (outcome s n a)) words words' bytes bytes' (reply_by (Err f))
    answers_none f t = on_none (outcome s n a) f (sym w.plan ∙ t) w.table w.part

    module _ (ok : Ranges s) (some : 1 ≤ n) (cool : a.peak ≤ s.temperature_limit) (t : r ≡ None) where
      best : OutcomeDemand2 s n a (outcome s n a)
      best = left_demand2 s ok n some a cool

      pub plan_levels : (i : ℕ) → i < n → get_or bytes' i 0 < s.levels
      plan_levels i h = on_levels (outcome s n a) best (sym w.plan ∙ t) w.part i h

      pub answers_plan : (c : State) (q : Reply) → c ≡ exact_run s a (take n bytes') →
          q ≡ planned_as (record { time = c.time; energy = c.energy; temperature = c.temperature }) c.peak → Answers (found s n a (outcome s n a)) words words' bytes bytes' q
      answers_plan c q e z = on_plan (outcome s n a) ok cool best (sym w.plan ∙ t) w.table w.part c q e z
