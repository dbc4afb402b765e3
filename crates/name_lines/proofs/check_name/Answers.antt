-- `check_name` names the fault that the definition names: the letter by `opens_with`, the name by `is_name`.
use mathlib.Core.Path.{sym, ◌∙◌}
use Rattle.name_lines.proofs.Name.{name_shape, name_sound, name_malformed}
use Rattle.name_lines.proofs.check_name.Goals as goal

pub returns-then-not-opens_with : goal.returns-then-not-opens_with
returns-then-not-opens_with c = name_shape _ (sym c.if-not-opens_with.ensures)

pub returns-then-not-is_name : goal.returns-then-not-is_name
returns-then-not-is_name c =
    name_malformed _ (sym c.if-not-opens_with.ensures) (rw c.behind.ensures at (sym c.is_name.ensures ∙ c.if-not-is_name.true))

pub returns : goal.returns
returns c =
    name_sound _ (sym c.if-not-opens_with.ensures) (rw c.behind.ensures at (sym c.is_name.ensures ∙ c.if-not-is_name.false))
