-- The level that `min_by_key` gives is the first of the least.
use mathlib.Core.Path.{refl, ◌∙◌}
use borrow.Author.Rules.{rules}
use Rattle.frame.specs.Plan.{via}
use Rattle.run.specs.Run.{state_of}
use Rattle.table.specs.Problem.{sheet_for}
use Rattle.lookup.specs.Lookup.{rest_by}
use Rattle.choice.proofs.Choice.{via_most}
use Rattle.choice.proofs.First.{first_level}
use Rattle.choice.proofs.choose.Goals as goal

pub returns : goal.returns
returns c =
    let p = c.args.problem.now in
    let s = sheet_for p in
    let w = via s (rest_by s c.args.table.now) (state_of c.args.a) in
    c.unwrap_or.ensures
    ∙ first_level _ _ c.min_by_key.result w s.levels c.min_by_key.ensures.ran (λ x k q h. search rules) (via_most s _ _ 0) refl p.framed.axes.levels
