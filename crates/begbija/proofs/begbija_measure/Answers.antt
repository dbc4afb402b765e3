-- The figures that are handed out are those of the measuring call; a line and a field are small, so that they fit.
-- Assumes nothing.
use mathlib.Core.Path.{◌≡◌, ap, ◌∙◌}
use mathlib.Core.List.{List}
use Prim.Native.Nat.{ℕ, ◌<◌, ◌^◌}
use native.Mathlib.Omega.{arith}
use Rattle.std.specs.Prelude.{Result, Ok, Err, IfErr}
use Rattle.refusal.specs.declared.Refusal.{Refusal}
use Rattle.refusal.specs.Code.{line_of, field_of}
use Rattle.measure.specs.declared.Margins.{Margins}
use Rattle.measure.specs.Measure.{measured_by, measure_of}
use Rattle.measure.proofs.Places.{Near, measured_near}
use Rattle.c_values.specs.Values.{number_by, figures_of}
use Rattle.c_values.proofs.Numbers.{handed_on}
use Rattle.begbija.proofs.Numbers.{measured_number}
use Rattle.begbija.proofs.begbija_measure.Goals as goal

small : (t js : List ℕ) (m : Result Margins Refusal) → measured_by m ≡ measure_of t js → IfErr m (λ f. (line_of f < 2 ^ 63) × (field_of f < 2 ^ 63))
small t js (Ok k) e = tt
small t js (Err f) e = let n : Near (measured_by (Err f)) = rw e (measured_near t js) in (omega (arith, n.line), omega (arith, n.field))

pub put_margins-requires : goal.put_margins-requires
put_margins-requires c = small _ _ c.measure-m.result c.measure-m.ensures.value

pub returns : goal.returns
returns c =
    let w = c.measure-m.ensures in
    let e = c.put_margins.ensures in
    let r = c.count_or_refusal in
    record {
      value = handed_on (record { sfits = r.type_inv }) (r.ensures ∙ ap number_by c.and.ensures ∙ measured_number c.measure-m.result w.value);
      margins_after = e ∙ ap figures_of w.value;
      meaning = rw e w.meaning;
    }
