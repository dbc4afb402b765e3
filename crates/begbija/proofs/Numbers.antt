-- The number of a call that hands back figures: 0, or minus the refusal.
-- Assumes nothing.
use mathlib.Core.Path.{◌≡◌, refl, ◌∙◌, sym, ap}
use lib.IntN.{ℤ}
use Prim.Native.Nat.{ℕ}
use Rattle.std.specs.Prelude.{Result, Ok, Err}
use Rattle.std.specs.Result.{result_and}
use Rattle.refusal.specs.declared.Refusal.{Refusal}
use Rattle.refusal.specs.Code.{number_of}
use Rattle.reply.specs.declared.Totals.{Totals}
use Rattle.reply.specs.Reply.{Reply, reply_by}
use Rattle.measure.specs.declared.Margins.{Margins}
use Rattle.measure.specs.Measure.{Measured, measured_by}
use Rattle.c_values.specs.Values.{minus, number_by}
use Rattle.c_values.proofs.Numbers.{number_only}

pub reply_number : (r : Result Totals Refusal) {q : Reply} → q ≡ reply_by r → number_by (result_and r (Ok 0)) ≡ minus q.refusal
reply_number (Ok t) e = ap (λ (x : Reply). minus x.refusal) (sym e)
reply_number (Err f) e = number_only (number_of f) ∙ ap (λ (x : Reply). minus x.refusal) (sym e)

pub measured_number : (r : Result Margins Refusal) {q : Measured} → measured_by r ≡ q → number_by (result_and r (Ok 0)) ≡ minus q.refusal
measured_number (Ok t) e = ap (λ (x : Measured). minus x.refusal) e
measured_number (Err f) e = number_only (number_of f) ∙ ap (λ (x : Measured). minus x.refusal) e
