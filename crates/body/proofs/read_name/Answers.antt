-- `read_name` reads a line J in one pass where `take_name` takes it, and else by `check_name`; both say what the definition says.
use mathlib.Core.Path.{◌≡◌, refl}
use mathlib.Core.List.{List}
use Prim.Native.Nat.{ℕ}
use native.Mathlib.Omega.{arith}
use Rattle.std.specs.Prelude.{Option, Some, None}
use Rattle.std.specs.Option.{option_map}
use Rattle.std.proofs.lemmas.Result.{err_from_is_err_and}
use Rattle.text.proofs.Text.{ahead_lt}
use Rattle.name_lines.specs.Name.{name_fault}
use Rattle.fast_fields.specs.Take.{line_taken}
use Rattle.fast_fields.proofs.Line.{LineAt, line_at}
use Rattle.fast_name_lines.specs.Name.{name_line_max}
use Rattle.reading.specs.Rest.{rest_of}
use Rattle.reading.proofs.Rest.{next_taken, read_by}
use Rattle.body.specs.Body.{name_from}
use Rattle.body.proofs.read_name.Goals as goal

-- A line J that is taken ends at a byte 10, and is sound.
name_at : (t : List ℕ) (n : ℕ) → Some n ≡ option_map (λ line. line.1) (line_taken name_line_max name_fault t) →
    LineAt name_line_max name_fault t tt n
name_at t n = go (line_taken name_line_max name_fault t) refl
  where
    go : (o : Option (Unit {0} × ℕ)) → line_taken name_line_max name_fault t ≡ o → Some n ≡ option_map (λ line. line.1) o →
        LineAt name_line_max name_fault t tt n
    go None q k = absurd cc
    go (Some line) q k = let y : n ≡ line.1 = cc in rw y (line_at name_line_max name_fault t {a = line.0} {n = line.1} q)

pub behind-requires : goal.behind-requires
behind-requires c = let z = name_at _ _ c.in-Some.ensures in (omega (arith, z.size), omega (arith, z.size, ahead_lt 10 _ z.ends))

pub returns-in-Some : goal.returns-in-Some
unfolding name_from
returns-in-Some c =
    let z = name_at _ _ c.in-Some.ensures in
    let next = next_taken name_fault (rest_of c.args.place) _ _ z.ends z.says z.size in
    rw (c.behind.ensures, next) refl

pub returns-in_err-behind : goal.returns-in_err-behind
unfolding name_from
returns-in_err-behind c =
    let p = err_from_is_err_and c.from_residual.result c.from_residual.ensures.1 in
    rw (p.1, p.2, ← read_by name_fault _ _ c.in_err-behind.ensures (λ line said h. h.1)) refl

pub returns : goal.returns
unfolding name_from
returns c = rw (← read_by name_fault _ _ c.in_ok-behind.ensures (λ line said h. h.1)) refl
