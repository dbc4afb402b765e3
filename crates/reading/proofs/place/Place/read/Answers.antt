-- The next line by what reads a line: each outcome is what `ReadBy` says (`Rest`).
use mathlib.Core.Path.{◌≡◌}
use native.Mathlib.Omega.{arith}
use Rattle.std.proofs.Common.{of_calls}
use Rattle.std.specs.Prelude.{Ok, Err}
use Rattle.std.proofs.lemmas.Result.{err_from_is_err_and, MatchResult-weaker}
use Rattle.text.proofs.Text.{line_some}
use Rattle.reading.specs.Rest.{rest_of, fault_of}
use Rattle.fields.specs.declared.Fault.TheVariants.{Shape}
use Rattle.reading.proofs.Rest.{Turned, said_stays, fault_turned, read_missing, read_said, read_wrong}
use Rattle.reading.proofs.place.Place.read.Goals as goal

pub returns-in_err-line : goal.returns-in_err-line
returns-in_err-line g c =
    let p = err_from_is_err_and c.from_residual.result c.from_residual.ensures.1 in
    let none = rw c.in_err-line.ensures.ok_part at c.next_line.ensures in
    let made = rw c.in_err-line.ensures.ok_part at c.in_err-line.ensures.value in
    let here : c.fault_here.result ≡ fault_of (rest_of c.args.self) Shape = search of_calls in
    let e : c.in_err-line.field-0.0 ≡ c.fault_here.result = cc in
    rw (p.1, p.2, e, here) (read_missing _ _ none)

pub behind-requires : goal.behind-requires
behind-requires g c =
    let l = line_some _ _ (rw c.in_ok-line.ensures.ok_part at c.next_line.ensures) in
    (omega arith, omega (arith, l.long))

pub returns-in_err-said : goal.returns-in_err-said
returns-in_err-said g c =
    let p = err_from_is_err_and c.from_residual-in_err-said.result c.from_residual-in_err-said.ensures.1 in
    let line = rw c.in_ok-line.ensures.ok_part at c.next_line.ensures in
    let t : Turned (rest_of c.args.self) c.f.result (Err c.in_err-said.field-0.0) =
    MatchResult-weaker c.f.result c.in_err-said.ensures.cases (λ a q. q) (λ f w. search of_calls)
    in
    let w = fault_turned (rest_of c.args.self) _ _ t in
    let f = rw w.1 at c.f.ensures in
    rw (p.1, p.2, w.2) (read_wrong _ _ _ line w.0 f)

pub returns : goal.returns
returns g c =
    let line = rw c.in_ok-line.ensures.ok_part at c.next_line.ensures in
    let t : Turned (rest_of c.args.self) c.f.result (Ok c.in_ok-said.said) = c.in_ok-said.ensures.cases in
    let f = rw (said_stays (rest_of c.args.self) _ _ t) at c.f.ensures in
    read_said _ _ _ line _ f _ c.behind.ensures
