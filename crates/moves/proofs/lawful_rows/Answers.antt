-- The count is the quotient's, by the two multiples (`Rows`), and no step of it overflows or falls below 0.
use mathlib.Core.Path.{◌≡◌}
use Prim.Native.Nat.{◌+◌, ◌*◌, ◌-◌, ◌≤◌, ◌<◌}
use native.Mathlib.Nat.{le-mul_of_pos_right}
use native.Mathlib.Omega.{arith}
use Rattle.table.specs.Table.{raised_energy_max}
use Rattle.moves.proofs.Rows.{multiples, rows_all, rows_less}
use Prim.Native.Nat.{ℕ}
use Rattle.table.specs.declared.axes.Frame.{Frame}
use Rattle.moves.specs.Moves.{Counts}
use Rattle.moves.proofs.lawful_rows.Goals as goal

-- The two multiples.
facts : (f : Frame) {energy up : ℕ} → Counts f energy up → let g = f.head.energy_step in let last = f.energy_cells - 1 in
    (up ≤ last) × (f.head.energy_budget ≤ last * g) × (last * g < f.head.energy_budget + g) × (energy ≤ up * g) × (up * g < energy + g)
    × (last * g ≡ up * g + (last - up) * g)
facts f r = multiples _ _ _ _ _ f.bounded.energy_step.low r.enough (omega (arith, f.rows)) r.raised

last_small : (f : Frame) {energy up : ℕ} → Counts f energy up → f.energy_cells - 1 < raised_energy_max
last_small f r = omega (arith, facts f r, f.bounded.energy_budget, f.bounded.energy_step, le-mul_of_pos_right (f.energy_cells - 1) f.bounded.energy_step.low)

pub overflow_cast-last : goal.overflow_cast-last
overflow_cast-last c = omega (arith, last_small c.args.f c.requires)

pub overflow_mul-over : goal.overflow_mul-over
overflow_mul-over c = omega (arith, facts c.args.f c.requires, c.args.f.bounded.energy_budget, c.args.f.bounded.energy_step, c.requires.enough)

pub overflow_sub-over : goal.overflow_sub-over
overflow_sub-over c = omega (arith, facts c.args.f c.requires)

pub overflow_mul-short : goal.overflow_mul-short
overflow_mul-short c = omega (arith, facts c.args.f c.requires, c.args.f.bounded.energy_budget, c.args.f.bounded.energy_step, c.requires.enough)

pub overflow_sub-short : goal.overflow_sub-short
overflow_sub-short c = omega (arith, facts c.args.f c.requires)

pub overflow_sub-result : goal.overflow_sub-result
overflow_sub-result c = omega (arith, facts c.args.f c.requires)

pub overflow_add-result : goal.overflow_add-result
overflow_add-result c = omega (arith, last_small c.args.f c.requires)

pub overflow_sub-result-else-over-short : goal.overflow_sub-result-else-over-short
overflow_sub-result-else-over-short c = omega (arith, facts c.args.f c.requires)

pub returns-then-over-short : goal.returns-then-over-short
returns-then-over-short c = rows_all _ _ _ _ _ c.args.f.bounded.energy_step.low c.requires.enough (omega (arith, c.args.f.rows)) c.requires.raised (omega (arith, c.if-over-short.true))

pub returns-else-over-short : goal.returns-else-over-short
returns-else-over-short c = rows_less _ _ _ _ _ c.args.f.bounded.energy_step.low c.requires.enough (omega (arith, c.args.f.rows)) c.requires.raised (omega (arith, c.if-over-short.false))
