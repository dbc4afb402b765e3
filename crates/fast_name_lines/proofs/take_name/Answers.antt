-- `take_name` takes what the definition takes: the letter by `starts_with`, the name by `count_letters`.
use mathlib.Core.Path.{sym, ◌∙◌}
use mathlib.Core.Logic.{inl, inr}
use native.Mathlib.Omega.{arith}
use borrow.Author.Rules.{rules}
use Rattle.fast_fields.proofs.Line.{starts_is}
use Rattle.fast_name_lines.proofs.Name.{name_unstarted, name_room, counted, name_taken, name_left}
use Rattle.fast_name_lines.proofs.take_name.Goals.{then-letters-eq0-via-then-letters-eq0, then-letters-eq0-via-else-letters-eq0+then-t-letters-ne-LINE_END}
use Rattle.fast_name_lines.proofs.take_name.Goals as goal

pub returns-then-not-starts_with : goal.returns-then-not-starts_with
returns-then-not-starts_with c = sym (name_unstarted _ (sym c.starts_with.ensures ∙ c.if-not-starts_with.true))

pub slice_bounds-count_letters-count : goal.slice_bounds-count_letters-count
slice_bounds-count_letters-count c = omega (arith, (starts_is _ _ _ (sym c.starts_with.ensures ∙ c.if-not-starts_with.false)).within)

pub slice_bounds-count_letters-start : goal.slice_bounds-count_letters-start
slice_bounds-count_letters-start c = omega (arith, (starts_is _ _ _ (sym c.starts_with.ensures ∙ c.if-not-starts_with.false)).within)

pub count_letters-letters-requires : goal.count_letters-letters-requires
count_letters-letters-requires c = name_room _ (starts_is _ _ _ (sym c.starts_with.ensures ∙ c.if-not-starts_with.false))

pub bounds-t-letters : goal.bounds-t-letters
bounds-t-letters c =
    let z = starts_is _ _ _ (sym c.starts_with.ensures ∙ c.if-not-starts_with.false) in
    let l = counted _ z _ c.count_letters-letters.ensures in
    omega (arith, z.within, l.few)

pub returns-then-letters-eq0 : goal.returns-then-letters-eq0
returns-then-letters-eq0 c =
    let z = starts_is _ _ _ (sym c.starts_with.ensures ∙ c.if-not-starts_with.false) in
    let l = counted _ z _ c.count_letters-letters.ensures in
    sym (name_left _ z _ l (elim c.then-letters-eq0.branch [
      | then-letters-eq0-via-then-letters-eq0 w ↦ inl w.if-letters-eq0.true
      | then-letters-eq0-via-else-letters-eq0+then-t-letters-ne-LINE_END w ↦ inr w.if-t-letters-ne-LINE_END.true
    ]))

pub returns : goal.returns
returns c =
    let z = starts_is _ _ _ (sym c.starts_with.ensures ∙ c.if-not-starts_with.false) in
    let l = counted _ z _ c.count_letters-letters.ensures in
    sym (name_taken _ z _ l (search rules) c.if-t-letters-ne-LINE_END.false)
