-- The reply that is handed out is the planner's, figure by figure, so all that the planner promises holds of it.
-- Assumes nothing.
use mathlib.Core.Path.{ap, ◌∙◌}
use Rattle.c_values.specs.Values.{number_by}
use Rattle.c_values.proofs.Numbers.{handed_on}
use Rattle.begbija.proofs.Numbers.{reply_number}
use Rattle.begbija.proofs.begbija_plan_afresh.Goals as goal

pub returns : goal.returns
returns c =
    let p = c.plan_afresh-a in
    let e = c.put_reply.ensures in
    let r = c.count_or_refusal in
    record {
      value = handed_on (record { sfits = r.type_inv }) (r.ensures ∙ ap number_by c.and.ensures ∙ reply_number p.result e);
      answers = rw e p.ensures.answers;
      afresh_demands = rw e p.ensures.afresh_demands;
    }
