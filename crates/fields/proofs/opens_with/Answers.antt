-- `opens_with` answers as the definition does, by the place of the line's first byte 9, its first byte and its count of bytes 9.
use mathlib.Core.Path.{ap, sym, ◌∙◌}
use Prim.Native.Nat.{ℕ}
use native.Mathlib.Omega.{arith}
use lib.Dec.{eqb}
use borrow.Author.Tests.{eq-eqb, ne_eqb}
use Rattle.text.proofs.Tests.{clash}
use Rattle.text.proofs.Text.{before_le}
use Rattle.fields.specs.Fields.{opens}
use Rattle.fields.proofs.opens_with.Goals.{then-letters-eq1, else-letters-eq1}
use Rattle.fields.proofs.opens_with.Goals as goal

pub bounds-line-0 : goal.bounds-line-0
bounds-line-0 c = omega (arith, c.find-letters.ensures, c.if-letters-eq1.true, before_le 9 c.args.line.bytes.now)

pub returns-then-line-letter : goal.returns-then-line-letter
unfolding opens
returns-then-line-letter c =
    elim c.if-letters-eq1.branch [
      | then-letters-eq1 w ↦
          rw (eq-eqb _ _ (sym c.find-letters.ensures ∙ w.if-letters-eq1.true), sym w.value-is ∙ c.if-line-letter.true)
          (ap (λ (m : ℕ). eqb m c.args.k) c.args.line.counted)
      | else-letters-eq1 w ↦
          let z = clash (sym c.if-line-letter.true ∙ w.value-is ∙ ne_eqb _ _ w.if-letters-eq1.false) in
          absurd (omega arith)
    ]

pub returns-else-line-letter : goal.returns-else-line-letter
unfolding opens
returns-else-line-letter c =
    elim c.if-letters-eq1.branch [
      | then-letters-eq1 w ↦
          rw (eq-eqb _ _ (sym c.find-letters.ensures ∙ w.if-letters-eq1.true), sym w.value-is ∙ c.if-line-letter.false) c.if-line-letter.false
      | else-letters-eq1 w ↦ rw (ne_eqb _ _ (λ e. w.if-letters-eq1.false (c.find-letters.ensures ∙ e))) c.if-line-letter.false
    ]
