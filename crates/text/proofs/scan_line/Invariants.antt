-- `scan_line` stops at the first byte 10 or at the text's end, with the bytes 9 before it counted: `Scanned` holds of what was passed.
use mathlib.Core.Path.{◌≡◌}
use Rattle.text.proofs.Text.{Scanned}
use Rattle.text.proofs.scan_line.Given as goal

abbrev pub invariant-loop-b : goal.invariant-loop-b
invariant-loop-b l = Scanned l.t l.end l.tabs × (l.end ≡ l.b-index)
