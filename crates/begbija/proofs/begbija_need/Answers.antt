-- The number is that of the words counted, or of the refusal.
-- Assumes nothing.
use mathlib.Core.Path.{ap, ◌∙◌}
use Rattle.begbija.specs.Begbija.{need_number}
use Rattle.c_values.proofs.Numbers.{handed_on}
use Rattle.begbija.proofs.begbija_need.Goals as goal

pub returns : goal.returns
returns c = let r = c.count_or_refusal in handed_on (record { sfits = r.type_inv }) (r.ensures ∙ ap need_number c.count_words.ensures.value)
