-- The worked cases hold of the definitions: this is the one file outside the thermal rule's crate that opens the rule, to
-- compute.
-- Assumes nothing.
use mathlib.Core.Path.{◌≡◌, refl}
use mathlib.Core.List.{List, [], ◌∷◌}
use Prim.Native.Nat.{ℕ}
use native.Mathlib.Omega.{arith}
use Rattle.thermal.specs.Rounding.{ceil_div, raise}
use Rattle.thermal.specs.Thermal.{steady_state, temperature_after}
use Rattle.thermal.proofs.Thermal.{rule_keeps}
use Rattle.frame.specs.Run.{start, change, job, step, raised}
use Rattle.frame.specs.Limits.{energy_slack, temperature_slack, tightened, margins}
use Rattle.frame.specs.Demands.{Tight, figures}
use Rattle.frame.specs.Plan.{least_of, first_within, next, cost, least, via, choice, plan, outcome}
use Rattle.frame.specs.Table.{energy_cells, temperature_cells, need, place, word}
use Rattle.frame.specs.Afresh.{tightened_left}
use Rattle.frame.specs.Cases.{CaseAnswer, Case, sheet, cases}

abbrev given : List Case → List CaseAnswer
given [] = []
given (c ∷ cs) = c.given ∷ given cs

abbrev expected : List Case → List CaseAnswer
expected [] = []
expected (c ∷ cs) = c.expected ∷ expected cs

pub cases_hold : (T s : ℕ) → given (cases T s) ≡ expected (cases T s)
unfolding energy_slack temperature_slack tightened_left margins figures outcome plan choice via least cost next first_within least_of raised step job change need place word energy_cells temperature_cells raise ceil_div steady_state temperature_after
cases_hold T s = rw (rule_keeps T s) refl

-- Levels 1, 0 meet the tightened limits of demand 3 exactly: 49, 85 − 9 = 76 and 2,698 − 198 = 2,500.
pub tight_list : Tight (sheet 49 85 2698 10 100) (tightened (sheet 49 85 2698 10 100)) 2 (start (sheet 49 85 2698 10 100)) (1 ∷ 0 ∷ [])
unfolding energy_slack temperature_slack step job change ceil_div steady_state temperature_after
tight_list = record { levels = record { size = refl; below = omega arith }; meets = omega arith }
