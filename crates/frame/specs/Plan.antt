-- The least time of the remaining jobs by the rounded rule, and the list of levels that takes it (document 01, 'The rounded
-- run and the table'; demand 2), as functions that compute. `proofs/Demand2.antt` shows that they are what demand 2 says in
-- words: `specs/Demands.antt`.
--
-- TCEC's Relax_ε rounds in the same way and fills its tables forwards, by elapsed time; document 01's table holds the
-- remaining time.
-- Assumes nothing.
use Rattle.std.specs.Prelude.{cond, List, [], ◌∷◌, ℕ, zero, suc, ◌+◌, ◌-◌, min, leb}
use Rattle.frame.specs.Sheet.{Sheet}
use Rattle.frame.specs.Run.{State, fresh, start, step, raised}
use Rattle.frame.specs.Demands.{infeasible, Outcome, planned, no_plan}

-- The least of f 0 .. f (k - 1), and `infeasible` where none is less than that.
unfoldable pub least_of : ℕ → (ℕ → ℕ) → ℕ
least_of zero f = infeasible
least_of (suc k) f = min (least_of k f) (f k)

-- The first place below k at which f is at most x, where there is one and x is less than `infeasible`.
unfoldable pub first_within : ℕ → (ℕ → ℕ) → ℕ → ℕ
first_within zero f x = 0
first_within (suc k) f x = cond (leb (least_of k f) x) (first_within k f x) k

-- The state after the next job, at level j by the rounded rule; its time and peak are that job's alone.
unfoldable pub next : Sheet → State → ℕ → State
next s a j = step s (raised s (fresh a.done a.level a.energy a.temperature)) j

-- The time of a job that ends in b and of the rest after it: no way where b passes the energy budget or the temperature
-- limit ("tested on the values before they are raised").
unfoldable pub cost : Sheet → State → ℕ → ℕ
cost s b rest =
    cond (leb b.energy s.energy_budget) (cond (leb b.peak s.temperature_limit) (min infeasible (b.time + rest)) infeasible) infeasible

-- The time of the next job at level j and of what comes after it, which takes `rest` from the state that the job leaves.
unfoldable pub via : Sheet → (State → ℕ) → State → ℕ → ℕ
via s rest a j = cost s (next s a j) (rest (next s a j))

-- "the least time in which the remaining jobs can be done within W and C by the rounded rule": n jobs, from the state a.
unfoldable pub least : Sheet → ℕ → State → ℕ
least s zero a = 0
least s (suc n) a = least_of s.levels (via s (least s n) a)

-- The first list in level order that keeps W and C by the rounded rule and takes at most x for the next n jobs, where the
-- least time is at most x.
unfoldable pub choice : Sheet → ℕ → State → ℕ → List ℕ
choice s zero a x = []
choice s (suc n) a x =
    let j : ℕ = first_within s.levels (via s (least s n) a) x in
    j ∷ choice s n (step s (raised s a) j) (x - (next s a j).time)

-- The plan: the first list in level order that takes the least time.
unfoldable pub plan : Sheet → ℕ → State → List ℕ
plan s n a = choice s n a (least s n a)

-- Which list is the plan for the next n jobs, and when there is none: "The deadline is compared with the start state's word
-- alone".
unfoldable pub outcome : Sheet → ℕ → State → Outcome
outcome s n a = cond (leb (a.time + least s n a) s.deadline) (planned (plan s n a)) no_plan

-- The outcome of the sheet's own frame.
abbrev pub frame_outcome : Sheet → Outcome
frame_outcome s = outcome s s.jobs (start s)
