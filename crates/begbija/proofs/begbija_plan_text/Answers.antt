-- The number and the text are the report's, and the demands in words follow from both.
-- Assumes nothing.
use mathlib.Core.Path.{ap, ◌∙◌}
use Rattle.begbija.specs.Begbija.{text_number}
use Rattle.c_values.proofs.Numbers.{handed_on}
use Rattle.begbija.proofs.TextDemands.{text_by, text_demands}
use Rattle.begbija.proofs.begbija_plan_text.Goals as goal

pub returns : goal.returns
returns c =
    let w = c.write_plan in
    let r = c.count_or_refusal in
    let e = handed_on (record { sfits = r.type_inv }) (r.ensures ∙ text_by w.result ∙ ap text_number w.ensures.value) in
    record { value = e; text_after = w.ensures.text_after; text_demands = text_demands _ _ _ _ e w.ensures.text_after }
