-- The run of a list is the definition's, by an invariant of what is run and what is left (`Levels`).
use Rattle.step.proofs.Levels.{going_next}
use borrow.Author.Rules.{rules}
use Rattle.step.proofs.Figures.run_levels.Goals as goal

pub loop-level-preserved : goal.loop-level-preserved
loop-level-preserved c = λ s r h.
    let l = c.loop-level in
    going_next r (l.invariant s r h) _ (search rules) (c.requires.below l.level-index (search rules)) (c.next_job-run.ensures s h)
