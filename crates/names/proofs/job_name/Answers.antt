-- The name of a job: none of a sheet that is refused or of a job that it does not have, else the name on its J line.
use mathlib.Core.Path.{ap, sym, ◌∙◌}
use Prim.Native.Nat.{ℕ}
use Rattle.sheet.proofs.Whole.{read_on}
use Rattle.names.specs.Name.{name_at}
use Rattle.names.proofs.Name.{name_none, name_some, name_small}
use borrow.Author.Rules.{rules}
use Rattle.names.proofs.job_name.Goals as goal

pub returns-in_default : goal.returns-in_default
returns-in_default c = sym (name_none _ _ _ (rw c.in_default.is at c.read.ensures) (search rules))

pub returns-then-m-i : goal.returns-then-m-i
returns-then-m-i c = sym (name_none _ _ _ (read_on _ _ c.read.ensures c.in-Ok.is) (search rules))

pub lines_before-requires : goal.lines_before-requires
lines_before-requires c = name_small _ _ _ (read_on _ _ c.read.ensures c.in-Ok.is) (search rules)

pub returns : goal.returns
returns c = c.name_at.ensures ∙ ap (λ (n : ℕ). name_at n c.args.s.now) c.lines_before.ensures ∙ sym (name_some _ _ _ (read_on _ _ c.read.ensures c.in-Ok.is) (search rules))
