-- `put_entry` leaves the store that the definition says, by what the line says.
use mathlib.Core.Path.{refl}
use native.Mathlib.Omega.{arith}
use Prim.Native.Nat.{◌<◌}
use Rattle.store.specs.Store.{levels_max}
use Rattle.line_kinds.specs.Figures.{changes_max, works_max, put}
use Rattle.line_kinds.proofs.put_entry.Goals as goal

pub bounds-store-k : goal.bounds-store-k
bounds-store-k c = let h : c.args.k < levels_max = rw c.in-Level.is at c.requires in omega arith

pub bounds-store-k-in-Change : goal.bounds-store-k-in-Change
bounds-store-k-in-Change c = let h : c.args.k < changes_max = rw c.in-Change.is at c.requires in omega arith

pub bounds-store-k-in-Work : goal.bounds-store-k-in-Work
bounds-store-k-in-Work c = let h : c.args.k < works_max = rw c.in-Work.is at c.requires in omega arith

pub returns-in-Level : goal.returns-in-Level
unfolding put
returns-in-Level c = rw c.in-Level.is refl

pub returns-in-Change : goal.returns-in-Change
unfolding put
returns-in-Change c = rw c.in-Change.is refl

pub returns-in-Work : goal.returns-in-Work
unfolding put
returns-in-Work c = rw c.in-Work.is refl
