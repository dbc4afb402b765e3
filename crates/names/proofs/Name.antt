-- Laws of names: which line has a job's name, and how many come before it.
-- Assumes nothing.
use mathlib.Core.Path.{◌≡◌, refl}
use mathlib.Core.List.{List, []}
use Prim.Native.Nat.{ℕ, ◌*◌, ◌≤◌, ◌<◌}
use native.Mathlib.Nat.{mul-le-mul}
use native.Mathlib.Omega.{arith}
use borrow.Author.Tests.{le-leb, lt-leb}
use Rattle.store.specs.Store.{jobs_max, levels_max}
use Rattle.body.specs.Body.{job_lines, lines_before}
use Rattle.sheet.specs.Reading.{SheetRead, reading_of}
use Rattle.sheet.proofs.Whole.{Counts, counts}
use Rattle.names.specs.Name.{name_at, name_of}

-- ---- a job's name in a sheet that was read

module _ (t : List ℕ) (i : ℕ) (r : SheetRead) (e : r ≡ reading_of t) where
  pub name_none : r.head.jobs ≤ i → name_of t i ≡ []
  unfolding name_of
  name_none h = rw (← e, le-leb r.head.jobs i h) refl

  pub name_some : i < r.head.jobs → name_of t i ≡ name_at (lines_before r.head.levels i) t
  unfolding name_of
  name_some h = rw (← e, lt-leb r.head.jobs i h) refl

  -- What the number of its J line may rest on.
  pub name_small : i < r.head.jobs → record { levels : r.head.levels ≤ levels_max; jobs : i ≤ jobs_max }
  name_small h = let c : Counts r = rw e (counts t) in record { levels = c.levels; jobs = omega (arith, c.jobs) }

-- ---- the number of a J line

pub lines_small : (l i : ℕ) → l ≤ levels_max → i ≤ jobs_max → (l * l ≤ levels_max * levels_max) × (i * job_lines l ≤ jobs_max * job_lines levels_max)
lines_small l i h k = let n : job_lines l ≤ job_lines levels_max = omega arith in (mul-le-mul h h, mul-le-mul k n)
