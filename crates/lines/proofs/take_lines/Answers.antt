-- `take_lines` takes what the definition takes, line by line.
use mathlib.Core.Path.{◌≡◌, refl, sym, ◌∙◌}
use native.Mathlib.Omega.{arith}
use Rattle.text.proofs.Text.{ahead_lt}
use Rattle.line_kinds.proofs.Figures.{entry_places, places_most}
use Rattle.fast_lines.proofs.Entries.{entry_at}
use Rattle.lines.proofs.Lines.{taken_none, taken_all, taken_other, taken_on}
use Rattle.lines.proofs.take_lines.Goals as goal

pub loop-j-init : goal.loop-j-init
loop-j-init c = taken_none _ _ _ _ _

pub returns-in_default : goal.returns-in_default
returns-in_default c = sym (c.loop-j.invariant ∙ taken_other _ _ _ _ _ _ c.loop-j-test.true c.in_default.ensures)

pub overflow_add-base : goal.overflow_add-base
overflow_add-base c = omega (arith, places_most c.args.kind, c.requires)

pub put_entry-requires : goal.put_entry-requires
put_entry-requires c =
    let z = entry_at _ _ _ c.in-Some.ensures in omega (arith, entry_places _ _ _ _ z.1, c.requires)

pub behind-place-requires : goal.behind-place-requires
behind-place-requires c =
    let z = entry_at _ _ _ c.in-Some.ensures in (omega (arith, z.2), omega (arith, z.2, ahead_lt 10 _ z.0))

pub loop-j-preserved : goal.loop-j-preserved
loop-j-preserved c =
    rw (c.behind-place.ensures, c.put_entry.ensures)
    (c.loop-j.invariant ∙ taken_on _ _ _ _ _ _ c.loop-j-test.true _ _ c.in-Some.ensures)

pub returns : goal.returns
returns c =
    let all : c.loop-j.j ≡ c.args.n = omega arith in
    sym (c.loop-j.invariant ∙ taken_all _ _ _ _ _ _ c.loop-j-test.false ∙ rw all refl)
