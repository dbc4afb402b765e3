-- The reply is the definition's in each of its four ways (`Replies`), and the words follow from the equation (`Meaning`).
use Rattle.std.proofs.lemmas.Result.{err_from_is_err_and}
use Rattle.sheet.proofs.Ranges.{reading_ranges}
use Rattle.measure.proofs.Levels.{found_place, no_place}
use Rattle.measure.proofs.Meaning.{means}
use Rattle.measure.proofs.Replies.{measure_refused, measure_length, measure_level, measure_given, listed}
use borrow.Author.Rules.{rules}
use mathlib.Core.Path.{◌∙◌}
use Rattle.measure.proofs.measure.Goals as goal

pub returns-in_err-head : goal.returns-in_err-head
returns-in_err-head c =
    let p = err_from_is_err_and c.from_residual.result c.from_residual.ensures.1 in
    let m = means (measure_refused _ c.args.levels.now _ _ c.read.ensures _ c.in_err-head.was) in
    rw (p.1, p.2) (record { value = m.0; meaning = m.1 })

pub returns-then-levels-head : goal.returns-then-levels-head
returns-then-levels-head c =
    let m = means (measure_length _ _ _ _ c.read.ensures _ c.in_ok-head.was (search rules)) in
    record { value = m.0; meaning = m.1 }

pub returns-in-Some : goal.returns-in-Some
returns-in-Some c =
    let k = found_place _ _ c.first_above.ensures _ c.in-Some.is in
    let m = means (measure_level _ _ _ _ c.read.ensures _ c.in_ok-head.was (search rules) _ k.0 k.1) in
    record { value = m.0; meaning = m.1 }

pub invariant_of-sheet : goal.invariant_of-sheet
invariant_of-sheet c = record { ranges = reading_ranges _ _ _ c.read.ensures _ c.in_ok-head.was }

pub margins_of-requires : goal.margins_of-requires
margins_of-requires c = listed _ _ _ _ c.read.ensures _ c.in_ok-head.was (search rules) (no_place _ _ c.first_above.ensures c.in_default.is)

pub returns : goal.returns
returns c =
    let m = means (c.margins_of.ensures ∙ measure_given _ _ _ _ c.read.ensures _ c.in_ok-head.was (search rules) (no_place _ _ c.first_above.ensures c.in_default.is)) in
    record { value = m.0; meaning = m.1 }
