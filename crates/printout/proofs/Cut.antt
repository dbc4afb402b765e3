-- A sheet's first 20,481 bytes tell what is printed for it, so `plan` need not read on.
-- Assumes nothing.
use mathlib.Core.Path.{◌≡◌, refl, sym, ap, ◌∙◌}
use mathlib.Core.List.{List}
use Prim.Native.Nat.{ℕ, ◌<◌}
use native.Mathlib.Decide.{dec_lt}
use native.Mathlib.Omega.{arith}
use lib.ListN.{length, take, length-take}
use lib.Seq.{take_all}
use borrow.Author.Tests.{lt-ltb}
use Rattle.sheet.specs.Reading.{reading_of}
use Rattle.demands.specs.Order.{answer_by, answer_of}
use Rattle.plan_lines.specs.Lines.{refusal_line}
use Rattle.report.specs.Report.{answer_in}
use Rattle.printout.specs.Printout.{printout}

-- "sheet over 20,480 bytes | 1 | line 0, field 0"
long_printout : (t : List ℕ) → 20480 < length t → printout t ≡ refusal_line 1 0 0
unfolding printout answer_in answer_by answer_of reading_of
long_printout t h = rw (lt-ltb 20480 (length t) h) refl

pub cut_same : (t : List ℕ) → printout (take 20481 t) ≡ printout t
cut_same t =
    elim (dec_lt 20480 (length t)) [
      | yes h ↦ long_printout (take 20481 t) (rw length-take (omega arith)) ∙ sym (long_printout t h)
      | no h ↦ ap printout (take_all 20481 t (omega arith))
    ]
