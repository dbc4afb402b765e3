-- The printed lines are what the definitions give.
-- Assumes nothing.
use mathlib.Core.Path.{◌≡◌, refl}
use mathlib.Core.List.{List, [], ◌∷◌}
use Prim.Native.Nat.{ℕ}
use Rattle.writer.specs.Decimal.{digits_in, decimal, field}
use Rattle.plan_lines.specs.Lines.{line_end, plan_line, job_line, refusal_line}
use Rattle.plan_lines.specs.Cases.{Case, cases}

abbrev given : List Case → List (List ℕ)
given [] = []
given (c ∷ cs) = c.given ∷ given cs

abbrev expected : List Case → List (List ℕ)
expected [] = []
expected (c ∷ cs) = c.expected ∷ expected cs

pub cases_hold : given cases ≡ expected cases
unfolding plan_line job_line refusal_line line_end field decimal digits_in
cases_hold = refl
