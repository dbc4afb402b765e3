-- `leading_number` gives what the definition says: `Digits` holds of the digits that are read, and each way out is one of its laws.
use mathlib.Core.Path.{◌≡◌}
use Rattle.numbers.proofs.Digits.{Digits}
use Rattle.numbers.proofs.leading_number.Given as goal

abbrev pub invariant-loop-b : goal.invariant-loop-b
invariant-loop-b l = Digits l.t l.b-index l.value × (l.digits ≡ l.b-index)
