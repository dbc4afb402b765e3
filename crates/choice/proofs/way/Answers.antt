-- The three ends of a step are those of the definition: over the energy budget, over the temperature limit, or within both.
use native.Mathlib.Omega.{arith}
use borrow.Author.Rules.{rules}
use Rattle.lookup.proofs.Lookup.{rest_small}
use Rattle.choice.proofs.Choice.{way_short, way_energy, way_temperature, way_within, way_looks}
use Rattle.choice.proofs.way.Goals as goal

pub returns-then-f-b : goal.returns-then-f-b
returns-then-f-b c =
    let p = c.args.problem.now.framed in
    way_energy p.axes c.requires.at c.requires.level _ (c.next_job-b.ensures _ p.stored) _ c.if-f-b.true

pub returns-then-f-b-2 : goal.returns-then-f-b-2
returns-then-f-b-2 c =
    let p = c.args.problem.now.framed in
    way_temperature p.axes c.requires.at c.requires.level _ (c.next_job-b.ensures _ p.stored) _ c.if-f-b.false c.if-f-b-2.true

pub rest_of-requires : goal.rest_of-requires
rest_of-requires c =
    let p = c.args.problem.now.framed in
    rw c.axes.ensures
    (λ d.
    way_looks p.axes c.requires.at c.requires.level _ (c.next_job-b.ensures _ p.stored) c.if-f-b.false c.if-f-b-2.false c.requires.room d)

pub overflow_add-t : goal.overflow_add-t
overflow_add-t c =
    let p = c.args.problem.now.framed in
    omega (arith, way_short p.axes c.requires.at c.requires.level _ (c.next_job-b.ensures _ p.stored), c.rest_of.ensures, rest_small c.axes.result c.args.table.now c.next_job-b.result (search rules))

pub returns : goal.returns
returns c =
    let p = c.args.problem.now.framed in
    omega (arith, way_within p.axes c.requires.at c.requires.level _ (c.next_job-b.ensures _ p.stored) c.if-f-b.false c.if-f-b-2.false _ _ (rw c.axes.ensures at c.rest_of.ensures))
