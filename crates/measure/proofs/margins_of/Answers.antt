-- The margins of a list are those of its run on the sheet that was read, by the contracts of the step: the store holds that sheet's
-- figures, and no figure of the run leaves a signed 64-bit number.
use mathlib.Core.Path.{◌≡◌, ◌∙◌}
use native.Mathlib.Omega.{arith}
use mir.Syntax.{w64}
use mir.Facts.{to_z-of_z}
use mathlib.Core.List.{List}
use Prim.Native.Nat.{ℕ}
use Rattle.frame.specs.Sheet.{Sheet, Ranges}
use Rattle.frame.specs.Run.{start, exact_run}
use Rattle.frame.specs.Demands.{LevelList}
use Rattle.store.specs.Figures.{sheet_of}
use Rattle.run.specs.Run.{state_of}
use Rattle.run.specs.declared.Run.{Run}
use Rattle.step.proofs.Levels.{begun_start}
use Rattle.measure.proofs.Levels.{below_each}
use Rattle.measure.proofs.Replies.{Under, measured_under, margins_hold}
use Rattle.measure.proofs.margins_of.Goals as goal

-- The whole list was run from the sheet's start.
ran : (s : Sheet) (levels : List ℕ) {first last : Run} → state_of first ≡ start s → state_of last ≡ exact_run s (state_of first) levels →
    state_of last ≡ exact_run s (start s) levels
ran s levels e r = rw e at r

-- No figure of the run leaves a signed 64-bit number.
under : {s : Sheet} {last : Run} {levels : List ℕ} → Ranges s → LevelList s s.jobs levels → state_of last ≡ exact_run s (start s) levels → Under (state_of last)
under r w e = rw e (measured_under r w)

pub run_levels-last-requires : goal.run_levels-last-requires
unfolding sheet_of
run_levels-last-requires c =
    let w = c.requires in
    record {
      begun = begun_start _ c.args.sheet.ranges c.of-figures.ensures.stored (c.start_of-first.ensures c.args.sheet.store.now) (omega (arith, w.size));
      below = λ i h. omega (arith, below_each c.args.sheet.head.levels c.args.levels.now w.below i h, c.args.sheet.ranges.levels.high);
    }

pub margin-time-requires : goal.margin-time-requires
unfolding sheet_of
margin-time-requires c = omega (arith, under c.args.sheet.ranges c.requires (ran _ c.args.levels.now (c.start_of-first.ensures c.args.sheet.store.now) (c.run_levels-last.ensures _ c.args.sheet.ranges c.of-figures.ensures.stored)), c.args.sheet.ranges.deadline)

pub margin-energy-requires : goal.margin-energy-requires
unfolding sheet_of
margin-energy-requires c = omega (arith, under c.args.sheet.ranges c.requires (ran _ c.args.levels.now (c.start_of-first.ensures c.args.sheet.store.now) (c.run_levels-last.ensures _ c.args.sheet.ranges c.of-figures.ensures.stored)), c.args.sheet.ranges.energy_budget)

pub margin-temperature-requires : goal.margin-temperature-requires
unfolding sheet_of
margin-temperature-requires c = omega (arith, under c.args.sheet.ranges c.requires (ran _ c.args.levels.now (c.start_of-first.ensures c.args.sheet.store.now) (c.run_levels-last.ensures _ c.args.sheet.ranges c.of-figures.ensures.stored)), c.args.sheet.ranges.temperature_limit)

pub returns : goal.returns
unfolding sheet_of
returns c =
    margins_hold _ _ _ (ran _ c.args.levels.now (c.start_of-first.ensures c.args.sheet.store.now) (c.run_levels-last.ensures _ c.args.sheet.ranges c.of-figures.ensures.stored)) _ _ _
    (to_z-of_z {w = w64} {z = c.margin-time.result} (record { sfits = c.margin-time.type_inv }) ∙ c.margin-time.ensures)
    (to_z-of_z {w = w64} {z = c.margin-energy.result} (record { sfits = c.margin-energy.type_inv }) ∙ c.margin-energy.ensures)
    (to_z-of_z {w = w64} {z = c.margin-temperature.result} (record { sfits = c.margin-temperature.type_inv }) ∙ c.margin-temperature.ensures)
