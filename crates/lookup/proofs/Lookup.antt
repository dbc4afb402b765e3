-- What the code looks up is what the table says, and where the table holds the words of the jobs done, that is the least time.
-- Assumes nothing.
use mathlib.Core.Path.{◌≡◌, refl, sym, ◌∙◌}
use mathlib.Core.List.{List}
use Prim.Native.Nat.{ℕ, ◌-◌, ◌≤◌, ◌<◌}
use native.Mathlib.Omega.{arith}
use native.Mathlib.Decide.{dec_lt}
use lib.ListN.{get_or}
use borrow.Author.Tests.{lt-ltb, le-ltb}
use Rattle.frame.specs.Sheet.{Sheet, Ranges}
use Rattle.frame.specs.Run.{State}
use Rattle.frame.specs.Plan.{least}
use Rattle.frame.specs.Table.{energy_cells, temperature_cells, need, place, words_max}
use Rattle.frame.proofs.Table.{place_lt, energy_cell, temperature_cell, least_word}
use Rattle.run.specs.Run.{state_of}
use Rattle.run.specs.declared.Run.{Run}
use Rattle.table.specs.declared.axes.Frame.{Frame}
use Rattle.table.specs.declared.axes.HeadAxes.{HeadAxes}
use Rattle.table.specs.Table.{Axes, Holds, head_axes}
use Rattle.table.proofs.Frames.{energy_count, temperature_count}
use Rattle.table.proofs.Cells.{raises}
use Rattle.lookup.specs.Lookup.{place_for, rest_by, place_by, rest_in, Looks}

-- ---- by the axes that the code has

-- The head's figures that a place is made of, and the cells of the axes, are those of the sheet and its table.
pub record SameAxes (s : Sheet) (f : HeadAxes) : Type 0 where
  pub jobs : f.head.jobs ≡ s.jobs
  pub levels : f.head.levels ≡ s.levels
  pub energy_step : f.head.energy_step ≡ s.energy_step
  pub temperature_step : f.head.temperature_step ≡ s.temperature_step
  pub energy_count : f.energy_cells ≡ energy_cells s
  pub temperature_count : f.temperature_cells ≡ temperature_cells s

-- So are those of the sheet's frame.
pub same_axes : {s : Sheet} {f : Frame} → Axes s f → SameAxes s (head_axes f)
same_axes x =
    record {
      jobs = x.jobs;
      levels = x.levels;
      energy_step = x.energy_step;
      temperature_step = x.temperature_step;
      energy_count = energy_count x;
      temperature_count = temperature_count x;
    }

module _ {s : Sheet} {f : HeadAxes} (x : SameAxes s f) (b : Run) where
  pub place_is : place_by f b ≡ place_for s (state_of b)
  unfolding place_by place_for place
  place_is = rw (x.levels, x.energy_count, x.temperature_count, x.energy_step, x.temperature_step) refl

  pub rest_is : (t : List ℕ) → rest_in f t b ≡ rest_by s t (state_of b)
  unfolding rest_in rest_by
  rest_is t = cc (x.jobs, place_is)

-- ---- a table that holds words

module _ {s : Sheet} (ok : Ranges s) {t : List ℕ} where
  pub rest_least : (b : State) → Holds s t b.done → b.level < s.levels → b.energy ≤ s.energy_budget → b.temperature ≤ s.temperature_limit →
      rest_by s t b ≡ least s (s.jobs - b.done) b
  unfolding rest_by place_for least
  rest_least b h l u v =
      elim (dec_lt b.done s.jobs) [
        | yes d ↦
            rw (lt-ltb b.done s.jobs d)
            (h.words d b.level _ _ l (energy_cell s ok b.energy u) (temperature_cell s ok b.temperature v) ∙ sym (least_word s ok b d))
        | no d ↦ let z : s.jobs - b.done ≡ 0 = omega arith in rw (le-ltb b.done s.jobs (omega arith), z) refl
      ]

-- ---- the code of a look-up

-- A run within the limits that has a job to do is raised to a cell of the table.
pub looks : {s : Sheet} {f : HeadAxes} {n : ℕ} → SameAxes s f → Ranges s → need s ≤ words_max → (b : Run) → b.level < s.levels → b.energy ≤ s.energy_budget →
    b.temperature ≤ s.temperature_limit → need s ≤ n → b.done < f.head.jobs → Looks f b n
unfolding need place_for energy_cells temperature_cells
looks {s} {f} x ok allowed b l u v h d =
    let k : place_by f b < need s =
    rw (place_is x b)
    (place_lt s b.done b.level _ _ l (energy_cell s ok b.energy u) (temperature_cell s ok b.temperature v) s.jobs (omega (arith, x.jobs))) in
    record {
      steps = record {
        raises = raises ok b u v;
        energy_step = omega (arith, x.energy_step, ok.energy_step);
        temperature_step = omega (arith, x.temperature_step, ok.temperature_step);
        energy_count = omega (arith, x.energy_count);
        temperature_count = omega (arith, x.temperature_count);
        allowed = omega (arith, k, allowed);
      };
      room = omega (arith, k, h);
    }

module _ (f : HeadAxes) (t : List ℕ) (b : Run) where
  pub rest_word : b.done < f.head.jobs → rest_in f t b ≡ get_or t (place_by f b) 0
  unfolding rest_in
  rest_word d = rw (lt-ltb b.done f.head.jobs d) refl

  pub rest_none : f.head.jobs ≤ b.done → rest_in f t b ≡ 0
  unfolding rest_in
  rest_none d = rw (le-ltb b.done f.head.jobs d) refl

  -- A word is a number of 32 bits, and so is what a table says.
  pub rest_small : ((k : ℕ) → get_or t k 0 < 4294967296) → rest_in f t b < 4294967296
  rest_small h =
      elim (dec_lt b.done f.head.jobs) [
        | yes d ↦ omega (arith, rest_word d, h (place_by f b))
        | no d ↦ omega (arith, rest_none (omega arith))
      ]
