-- The text of a plan (document 01, 'The logger's call and `plan`').
-- Assumes nothing.
use Rattle.std.specs.Prelude.{List, [], ◌∷◌, ◌++◌, ℕ, suc}
use Rattle.frame.specs.Sheet.{Sheet}
use Rattle.frame.specs.Run.{State, start, step}
use Rattle.frame.specs.Demands.{Figures, figures}
use Rattle.plan_lines.specs.Lines.{plan_line, job_line}
use Rattle.names.specs.Name.{name_of}

-- "part under m bytes (text: under 4,096) | 9"
abbrev pub text_least : ℕ
text_least = 4096

-- "for each job a Q line (name, level, then time, energy and temperature after the job)": the jobs from job i on, in the exact run
-- from the state a.
unfoldable pub job_text_from : (ℕ → List ℕ) → Sheet → ℕ → State → List ℕ → List ℕ
job_text_from name s i a [] = []
job_text_from name s i a (j ∷ js) =
    let b : State = step s a j in
    job_line (name i) j b.time b.energy b.temperature ++ job_text_from name s (suc i) b js

-- "a P line (m, time, energy, final temperature)", and then the Q lines; the names are those of the sheet's text t.
unfoldable pub plan_text : List ℕ → Sheet → List ℕ → List ℕ
plan_text t s js =
    let k : Figures = figures s (start s) js in
    plan_line s.jobs k.time k.energy k.temperature ++ job_text_from (name_of t) s 0 (start s) js
