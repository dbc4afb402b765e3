-- What is laid follows the job, as the map and then the rows are laid in the level's own words (`Laying`).
use mathlib.Core.Path.{refl}
use Prim.Native.Nat.{ℕ, suc, ◌+◌, ◌*◌, ◌≤◌, ◌<◌}
use native.Mathlib.Omega.{arith}
use Rattle.std.proofs.Common.{rules}
use lib.ListN.{length}
use Rattle.frame.specs.Sheet.{Sheet}
use Rattle.frame.specs.Table.{need, words_max}
use Rattle.table.specs.declared.axes.Frame.{Frame}
use Rattle.table.specs.Table.{Axes, cells}
use Rattle.table.proofs.Frames.{rows_some, columns_some, temperature_count}
use Rattle.table.proofs.Places.{base_next, base_mono, base_need, at_by, cells_by, last_row, at_is, at_need, at_small, row_small, next_is, job_small}
use Rattle.follow.proofs.Laying.{next_behind, map_laid, map_rising, rows_laid}
use Rattle.follow.proofs.expand_level.Goals as goal

-- The level's words lie in the table.
level_room : {s : Sheet} {f : Frame} → Axes s f → (i j : ℕ) → i < s.jobs → j < s.levels → let n = i * f.head.levels + j in
    (n * f.energy_cells ≤ words_max) × (n * f.energy_cells * f.temperature_cells + cells s ≤ words_max)
    × (n * f.energy_cells * f.temperature_cells + cells s ≤ need s)
level_room g i j p q =
    let r = row_small g i j p q in
    (r.1, at_small g i j p q, omega (arith, at_is g i j p q, at_need g i j p q))

-- Where the next job's words would begin is a small number after the last job too.
next_small : {s : Sheet} {f : Frame} → Axes s f → (i j : ℕ) → i < s.jobs → j < s.levels →
    (f.head.levels * f.energy_cells ≤ words_max) × (at_by f i j + f.head.levels * f.energy_cells * f.temperature_cells ≤ words_max + words_max)
next_small {s} g i j p q = (
  job_small g i j p q,
  omega (arith, next_is g i j p q, base_next s i j, base_next s i 0, base_mono s (suc i) s.jobs (omega arith), base_need s, g.allowed, at_is g i j p q, at_small g i j p q),
)

pub overflow_mul-at-2 : goal.overflow_mul-at-2
overflow_mul-at-2 c = omega (arith, level_room c.args.problem.now.framed.axes c.args.i c.args.j c.requires.job c.requires.level)

pub overflow_mul-at-3 : goal.overflow_mul-at-3
overflow_mul-at-3 c = omega (arith, level_room c.args.problem.now.framed.axes c.args.i c.args.j c.requires.job c.requires.level)

pub invariant_of-rows : goal.invariant_of-rows
invariant_of-rows c =
    let g = c.args.problem.now.framed.axes in
    record { rows_some = rows_some c.args.problem.now.frame; width_some = columns_some c.args.problem.now.frame; fits = omega (arith, level_room g c.args.i c.args.j c.requires.job c.requires.level, cells_by g) }

-- The last row lies in the table.
row_room : (c : goal.After-last_row-last) → let a = c.args in
    c.last_row-last.result + a.problem.now.frame.temperature_cells ≤ words_max
    × c.last_row-last.result + a.problem.now.frame.temperature_cells ≤ length a.table.now
row_room c =
    let a = c.requires in
    let g = c.args.problem.now.framed.axes in
    let room = level_room g c.args.i c.args.j a.job a.level in
    (omega (arith, c.last_row-last.ensures, last_row g, room), omega (arith, c.last_row-last.ensures, last_row g, room, a.room))

pub offset_bounds-table-last : goal.offset_bounds-table-last
offset_bounds-table-last c = omega (arith, row_room c)

pub map_cells-requires : goal.map_cells-requires
map_cells-requires c = search (rules, temperature_count c.args.problem.now.framed.axes)

pub slice_bounds-map_cells-end : goal.slice_bounds-map_cells-end
slice_bounds-map_cells-end c = omega (arith, row_room c)

pub overflow_mul-levels : goal.overflow_mul-levels
overflow_mul-levels c = omega (arith, next_small c.args.problem.now.framed.axes c.args.i c.args.j c.requires.job c.requires.level)

pub overflow_mul-levels-2 : goal.overflow_mul-levels-2
overflow_mul-levels-2 c = omega (arith, next_small c.args.problem.now.framed.axes c.args.i c.args.j c.requires.job c.requires.level)

pub overflow_add-at-2 : goal.overflow_add-at-2
overflow_add-at-2 c = omega (arith, next_small c.args.problem.now.framed.axes c.args.i c.args.j c.requires.job c.requires.level)

pub expand_rows-requires : goal.expand_rows-requires
expand_rows-requires c =
    let a = c.requires in
    let g = c.args.problem.now.framed.axes in
    let m = map_laid g c.args.i c.args.j a.job a.level a.room c.last_row-last.ensures c.map_cells.ensures in
    record {
      room = omega (arith, level_room g c.args.i c.args.j a.job a.level, cells_by g, a.room, m.long);
      rising = map_rising g c.args.i c.args.j a.job a.level m;
      next-behind = next_behind g c.args.i c.args.j a.job a.level _ _ refl refl (omega (arith, a.room, m.long)) c.then_some-next.ensures;
    }

pub returns : goal.returns
returns c =
    let a = c.requires in
    let g = c.args.problem.now.framed.axes in
    let m = map_laid g c.args.i c.args.j a.job a.level a.room c.last_row-last.ensures c.map_cells.ensures in
    rows_laid g c.args.i c.args.j a.job a.level m a.next c.then_some-next.ensures c.expand_rows.ensures
