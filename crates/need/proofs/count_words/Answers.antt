-- The words of a sheet that was read, or its refusal.
use Rattle.std.proofs.lemmas.Result.{err_from_is_err_and}
use Rattle.sheet.proofs.Ranges.{reading_ranges}
use Rattle.need.proofs.Axes.{need_sheet, need_below}
use Rattle.need.proofs.Need.{words_refused, words_counted}
use Rattle.need.proofs.count_words.Goals as goal

pub returns-in_err-head : goal.returns-in_err-head
returns-in_err-head c =
    let p = err_from_is_err_and c.from_residual.result c.from_residual.ensures.1 in
    rw (p.1, p.2) (record { value = words_refused _ _ _ c.read.ensures _ c.in_err-head.was; words_bound = tt })

pub frame_of-requires : goal.frame_of-requires
frame_of-requires c = record { store = _; ranges = reading_ranges _ _ _ c.read.ensures _ c.in_ok-head.was }

pub returns : goal.returns
returns c =
    record {
      value = words_counted _ _ _ c.read.ensures _ c.in_ok-head.was _ (need_sheet c.frame_of.result _ c.frame_of.ensures c.need_of.ensures);
      words_bound = rw c.need_of.ensures (need_below c.frame_of.result);
    }
