-- Demands 2 and 3 of the request, and what a word of the table holds (document 01), in words: over all lists of levels. How a
-- plan is found stands in `specs/Plan.antt`, and the proofs show that it is what is said here.
-- Assumes nothing.
use Rattle.std.specs.Prelude.{◌↔◌, ◌≡◌, List, [], ◌∷◌, ℕ, ◌+◌, ◌≤◌, ◌<◌, length}
use Rattle.frame.specs.Sheet.{Sheet}
use Rattle.frame.specs.Run.{State, exact, raised, exact_run}
use Rattle.frame.specs.Limits.{Limits, Meets, limits_by, limits}

-- Every level of a list is below l.
abbrev pub Below : ℕ → List ℕ → Type 0
Below l [] = Unit
Below l (j ∷ js) = (j < l) × Below l js

-- "a list is any m levels, each below l", for n jobs in place of m
pub record LevelList (s : Sheet) (n : ℕ) (js : List ℕ) : Type 0 where
  pub size : length js ≡ n
  pub below : Below s.levels js

-- A list for the next n jobs that stays "within the limits when rounded up to the grains", with the deadline d.
pub record Keeps (s : Sheet) (d n : ℕ) (a : State) (js : List ℕ) : Type 0 where
  pub levels : LevelList s n js
  pub meets : Meets s (raised s) (limits_by s d) a js

-- The time at the end of a list that is run from a; time is not rounded.
abbrev pub end_time : Sheet → State → List ℕ → ℕ
end_time s a js = (exact_run s a js).time

-- Lexicographic order (document 01: level order), the list itself included: it "compares two lists from the first job on;
-- where they first differ, the lower level comes first".
abbrev pub LexLe : List ℕ → List ℕ → Type 0
LexLe [] ys = Unit
LexLe (x ∷ xs) [] = ⊥
LexLe (x ∷ xs) (y ∷ ys) = (x ≤ y) × (x ≡ y → LexLe xs ys)

-- "of all lists of levels that stay within the limits when rounded up to the grains, the one of least time, and among equals
-- the first in level order"
pub record Best (s : Sheet) (n : ℕ) (a : State) (js : List ℕ) : Type 0 where
  pub keeps : Keeps s s.deadline n a js
  pub least : (xs : List ℕ) → Keeps s s.deadline n a xs → end_time s a js ≤ end_time s a xs
  pub first : (xs : List ℕ) → Keeps s s.deadline n a xs → end_time s a xs ≡ end_time s a js → LexLe js xs

-- What a planner can find: a plan, which is a list of levels, or "no plan".
pub data Outcome : Type 0 where
  planned : List ℕ → Outcome
  no_plan : Outcome

-- Demand 2: the plan is the best list, and "no plan" is "answered if there is no such list, and only then".
abbrev pub OutcomeDemand2 : Sheet → ℕ → State → Outcome → Type 0
OutcomeDemand2 s n a (planned js) = Best s n a js
OutcomeDemand2 s n a no_plan = (js : List ℕ) → ¬ Keeps s s.deadline n a js

-- A list for the next n jobs that stays within W and C by the rounded rule, whatever time it takes: its own end is the
-- deadline.
abbrev pub Feasible : Sheet → ℕ → State → List ℕ → Type 0
Feasible s n a js = Keeps s (end_time s a js) n a js

-- "4,294,967,295 where no way exists"
abbrev pub infeasible : ℕ
infeasible = 4294967295

-- x is "the least time in which the remaining jobs can be done within W and C by the rounded rule, or 4,294,967,295 where no
-- way exists": n jobs, from the state a.
pub record LeastTime (s : Sheet) (n : ℕ) (a : State) (x : ℕ) : Type 0 where
  pub most : x ≤ infeasible
  pub reached : x < infeasible → (js : List ℕ) × Feasible s n a js × (end_time s a js ≡ a.time + x)
  pub least : (js : List ℕ) → Feasible s n a js → a.time + x ≤ end_time s a js
  pub none : (x ≡ infeasible) ↔ ((js : List ℕ) → ¬ Feasible s n a js)

-- A list for the next n jobs that meets the limits k in the exact run, from the state a.
pub record Tight (s : Sheet) (k : Limits) (n : ℕ) (a : State) (js : List ℕ) : Type 0 where
  pub levels : LevelList s n js
  pub meets : Meets s exact k a js

-- "that plan, run without grains, meets deadline, ration and ceiling after every job", and "takes no longer than any list"
-- that meets the tightened limits k.
pub record Sound (s : Sheet) (k : Limits) (n : ℕ) (a : State) (js : List ℕ) : Type 0 where
  pub levels : LevelList s n js
  pub meets : Meets s exact (limits s) a js
  pub no_slower : (xs : List ℕ) → Tight s k n a xs → end_time s a js ≤ end_time s a xs

-- Demand 3 on the outcome, with k the tightened limits: `tightened s` for the sheet's own frame, all its jobs from its start.
-- "Where the answer is "no plan", no list meets these tightened limits."
abbrev pub OutcomeDemand3 : Sheet → Limits → ℕ → State → Outcome → Type 0
OutcomeDemand3 s k n a (planned js) = Sound s k n a js
OutcomeDemand3 s k n a no_plan = (xs : List ℕ) → ¬ Tight s k n a xs

-- What a plan's reply says: "total time, energy and final temperature of the run without grains".
pub record Figures : Type 0 where
  pub time : ℕ
  pub energy : ℕ
  pub temperature : ℕ

-- The figures of a list of levels, in the exact run from the state a.
unfoldable pub figures : Sheet → State → List ℕ → Figures
figures s a js =
    let b : State = exact_run s a js in
    record { time = b.time; energy = b.energy; temperature = b.temperature }
