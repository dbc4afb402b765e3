-- `scan_line` stops at the first byte 10 or at the text's end, with the bytes 9 before it counted: `Scanned` holds of what was passed.
use mathlib.Core.Path.{refl}
use native.Mathlib.Omega.{arith}
use borrow.Author.Rules.{rules}
use Rattle.text.proofs.Text.{scanned_none, scanned_byte, scanned_tab, scanned_end, scanned_all}
use Rattle.text.proofs.scan_line.Goals.{then-b-eq-TAB, else-b-eq-TAB, else-loop-b-test, then-loop-b-test+then-b-eq-LINE_END}
use Rattle.text.proofs.scan_line.Goals as goal

pub loop-b-init : goal.loop-b-init
loop-b-init c = (scanned_none _, refl)

pub loop-b-preserved : goal.loop-b-preserved
loop-b-preserved c =
    let z = c.loop-b.invariant.0 in
    let q = c.loop-b.invariant.1 in (
      elim c.if-b-eq-TAB.branch [
        | then-b-eq-TAB w ↦ scanned_tab z (search rules) _ w.tabs-is (search rules) (search rules)
        | else-b-eq-TAB w ↦ scanned_byte z (search rules) _ w.tabs-is (search rules) (search rules)
      ],
      omega (arith, q),
    )

pub returns : goal.returns
returns c =
    let z = c.loop-b.invariant.0 in
    elim c.loop-b-test.branch [
      | else-loop-b-test w ↦ scanned_all z (search rules)
      | then-loop-b-test+then-b-eq-LINE_END w ↦ scanned_end z (search rules) (search rules)
    ]
