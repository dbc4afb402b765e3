-- Demand 2: the outcome that `specs/Plan.antt` computes is the one that demand 2 says in words, and the words leave no other.
-- Assumes nothing.
use mathlib.Core.Path.{◌≡◌, refl, ap, sym, subst}
use mathlib.Core.List.{List, [], ◌∷◌}
use Prim.Native.Nat.{ℕ, ◌+◌, ◌≤◌, ◌<◌}
use native.Mathlib.Omega.{arith}
use native.Mathlib.Decide.{dec_le}
use borrow.Author.Tests.{le-leb, lt-leb}
use Rattle.frame.specs.Sheet.{Sheet}
use Rattle.frame.specs.Run.{State, exact, raised}
use Rattle.frame.specs.Plan.{least, choice, plan, outcome}
use Rattle.frame.specs.Demands.{LexLe, Keeps, end_time, Best, Outcome, planned, no_plan, OutcomeDemand2, infeasible}
use Rattle.frame.proofs.Run.{same_time, raised_time, run_later, meets_by, meets_time}
use Rattle.frame.proofs.Plan.{keeps_least, choice_keeps, choice_first}

-- ---- the words leave one outcome

lex_antisymm : (xs ys : List ℕ) → LexLe xs ys → LexLe ys xs → xs ≡ ys
lex_antisymm [] [] h k = refl
lex_antisymm [] (y ∷ ys) h k = absurd k
lex_antisymm (x ∷ xs) [] h k = absurd h
lex_antisymm (x ∷ xs) (y ∷ ys) h k =
    let q : x ≡ y = omega arith in
    let r = lex_antisymm xs ys (h.1 q) (k.1 (sym q)) in
    cc

best_unique : (s : Sheet) (n : ℕ) (a : State) (js ks : List ℕ) → Best s n a js → Best s n a ks → js ≡ ks
best_unique s n a js ks p q =
    let e : end_time s a js ≡ end_time s a ks = omega (arith, p.least ks q.keeps, q.least js p.keeps) in
    lex_antisymm js ks (p.first ks q.keeps (sym e)) (q.first js p.keeps e)

pub demand2_unique : (s : Sheet) (n : ℕ) (a : State) (o p : Outcome) → OutcomeDemand2 s n a o → OutcomeDemand2 s n a p → o ≡ p
demand2_unique s n a (planned js) (planned ks) h k = ap planned (best_unique s n a js ks h k)
demand2_unique s n a (planned js) no_plan h k = absurd (k js h.keeps)
demand2_unique s n a no_plan (planned ks) h k = absurd (h ks k.keeps)
demand2_unique s n a no_plan no_plan h k = refl

-- ---- the outcome is that one

module _ (s : Sheet) (n : ℕ) (a : State) where
  -- A list that keeps the limits keeps them by any deadline that its own end keeps.
  pub keeps_by : (d e : ℕ) (js : List ℕ) → end_time s a js ≤ e → Keeps s d n a js → Keeps s e n a js
  keeps_by d e js h k =
      record {
        levels = k.levels;
        meets = meets_by s (raised s) (raised_time s) d e js a (omega (arith, same_time s js a a refl refl refl)) k.meets;
      }

  pub keeps_time : (d : ℕ) (js : List ℕ) → a.time ≤ d → Keeps s d n a js → end_time s a js ≤ d
  keeps_time d js h k = rw (same_time s js a a refl refl refl) (meets_time s (raised s) d js a h k.meets)

  -- Where a job is left, a list that keeps a deadline starts by it.
  pub keeps_soon : (d : ℕ) (js : List ℕ) → 1 ≤ n → Keeps s d n a js → a.time ≤ d
  keeps_soon d [] h k = absurd (omega (arith, k.levels.size))
  keeps_soon d (j ∷ js) h k = omega (arith, run_later s (raised s) (raised_time s) (j ∷ []) a, k.meets.0.time)

  -- No list that keeps the limits ends before the least time.
  pub least_end : (d : ℕ) (js : List ℕ) → Keeps s d n a js → a.time + least s n a ≤ end_time s a js
  least_end d js k =
      keeps_least s (end_time s a js) n a js (run_later s exact (λ b. refl) js a) (keeps_by d (end_time s a js) js (omega arith) k)

  module _ (cool : a.peak ≤ s.temperature_limit) (short : least s n a < infeasible) where
    -- The plan ends at the least time, and keeps the limits by it.
    pub plan_keeps : Keeps s (a.time + least s n a) n a (plan s n a)
    unfolding plan
    plan_keeps = choice_keeps s (a.time + least s n a) n a (least s n a) short (omega arith) cool (omega arith)

    pub plan_end : end_time s a (plan s n a) ≡ a.time + least s n a
    plan_end =
        let k = plan_keeps in
        omega (arith, keeps_time (a.time + least s n a) (plan s n a) (omega arith) k, least_end _ (plan s n a) k)

    plan_best : a.time + least s n a ≤ s.deadline → Best s n a (plan s n a)
    unfolding plan
    plan_best h =
        let e = plan_end in
        record {
          keeps = keeps_by (a.time + least s n a) s.deadline _ (omega arith) plan_keeps;
          least = λ xs k. omega (arith, least_end s.deadline xs k);
          first = λ xs k q.
              subst
              (λ (m : ℕ). LexLe (choice s m a (least s n a)) xs)
              k.levels.size
              (choice_first s (a.time + least s n a) xs a (least s n a) short (omega arith) (omega arith) k.levels.below (keeps_by s.deadline (a.time + least s n a) xs (omega arith) k).meets);
        }

  -- Demand 2, from any state whose peak is within the temperature limit, where a job is left.
  pub demand2 : s.deadline < infeasible → a.peak ≤ s.temperature_limit → 1 ≤ n → OutcomeDemand2 s n a (outcome s n a)
  unfolding outcome
  demand2 small cool some =
      elim (dec_le (a.time + least s n a) s.deadline) [
        | yes h ↦ rw (le-leb (a.time + least s n a) s.deadline h) (plan_best cool (omega arith) h)
        | no h ↦ rw (lt-leb (a.time + least s n a) s.deadline (omega arith)) (λ js k. omega (arith, keeps_least s s.deadline n a js (keeps_soon s.deadline js some k) k))
      ]
