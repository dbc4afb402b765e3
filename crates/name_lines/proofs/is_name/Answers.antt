-- `is_name` answers as the definition does, by the count of bytes and by each of them.
use mathlib.Core.Path.{sym, ◌∙◌}
use Rattle.name_lines.proofs.Name.{name_empty, name_long, name_letters}
use Rattle.name_lines.proofs.is_name.Goals.{then-is_empty-via-then-is_empty, then-is_empty-via-else-is_empty+then-t-gt-NAME_MAX}
use Rattle.name_lines.proofs.is_name.Goals as goal

pub returns-then-is_empty : goal.returns-then-is_empty
returns-then-is_empty c =
    elim c.then-is_empty.branch [
      | then-is_empty-via-then-is_empty w ↦ name_empty _ (sym c.is_empty.ensures ∙ w.if-is_empty.true)
      | then-is_empty-via-else-is_empty+then-t-gt-NAME_MAX w ↦ name_long _ (sym c.is_empty.ensures ∙ w.if-is_empty.false) w.if-t-gt-NAME_MAX.true
    ]

pub returns : goal.returns
returns c = c.are_letters.ensures ∙ name_letters _ (sym c.is_empty.ensures ∙ c.if-is_empty.false) c.if-t-gt-NAME_MAX.false
