-- Laws of a text that is read line by line: what a call of `read` gives, and what it leaves.
-- Assumes nothing.
use mathlib.Core.Path.{◌≡◌, refl, ap, sym, ◌∙◌}
use mathlib.Core.Bool.{Bool, true, false, cond}
use mathlib.Core.List.{List}
use Prim.Native.Nat.{ℕ, suc, ◌+◌}
use native.Mathlib.Omega.{arith}
use lib.ListN.{length, drop}
use Rattle.std.specs.Prelude.{Some, None, Result, Ok, Err, MatchResult, IsErrAnd}
use Rattle.text.specs.Text.{before, until, beyond, ahead, next_line}
use Rattle.text.specs.declared.Line.{Line}
use Rattle.text.proofs.Text.{line_some, line_none}
use Rattle.fields.specs.declared.Fault.{Fault}
use Rattle.fields.specs.declared.Fault.TheVariants.{Shape}
use Rattle.reading.specs.declared.LineFault.{LineFault}
use Rattle.reading.specs.declared.place.Place.{Place}
use Rattle.reading.specs.Rest.{Rest, next_rest, fault_of, next_by, rest_of, read_to, ReadBy}

-- ---- the next line

module _ {A : Type 0} (read : List ℕ → Result A Fault) (r : Rest) where
  pub next_missing : ahead 10 r.text ≡ false → next_by read r ≡ Err (fault_of r Shape)
  unfolding next_by
  next_missing e = rw e refl

  pub next_said : ahead 10 r.text ≡ true → (a : A) → read (until 10 r.text) ≡ Ok a → next_by read r ≡ Ok (a, next_rest r)
  unfolding next_by
  next_said e a q = rw (e, q) refl

  pub next_wrong : ahead 10 r.text ≡ true → (f : Fault) → read (until 10 r.text) ≡ Err f → next_by read r ≡ Err (fault_of r f)
  unfolding next_by
  next_wrong e f q = rw (e, q) refl

-- It depends on what is read of the line alone.
next_same : {A : Type 0} (f g : List ℕ → Result A Fault) (r : Rest) → f (until 10 r.text) ≡ g (until 10 r.text) → next_by f r ≡ next_by g r
unfolding next_by
next_same f g r e = rw e refl

-- A line of n bytes with its byte 10.
pub next_taken : {A : Type 0} (read : List ℕ → Result A Fault) (r : Rest) (n : ℕ) (a : A) → ahead 10 r.text ≡ true → read (until 10 r.text) ≡ Ok a →
    n ≡ before 10 r.text + 1 → next_by read r ≡ Ok (a, record { line = r.line + 1; text = drop n r.text })
unfolding beyond
next_taken read r n a e q z = let y : suc (before 10 r.text) ≡ n = omega (arith, z) in rw (← y) (next_said read r e a q)

-- ---- a call whose fault is turned into that of its line

module _ {A : Type 0} (r : Rest) where
  -- What is made of what was said of the line.
  abbrev pub Turned : Result A Fault → Result A LineFault → Type 0
  Turned said made = MatchResult said (λ a. made ≡ Ok a) (λ f. IsErrAnd made (λ e. e ≡ fault_of r f))

  pub said_stays : (said : Result A Fault) (a : A) → Turned said (Ok a) → said ≡ Ok a
  said_stays (Ok x) a w = let q : a ≡ x = cc in rw q refl
  said_stays (Err f) a w = absurd w

  pub fault_turned : (said : Result A Fault) (e : LineFault) → Turned said (Err e) → (f : Fault) × (said ≡ Err f) × (e ≡ fault_of r f)
  fault_turned (Ok x) e w = absurd cc
  fault_turned (Err f) e w = (f, refl, w)

-- ---- a call of `read`

module _ {A : Type 0} (post : Line → Result A Fault → Type 0) (p : Place) where
  pub read_missing : None ≡ next_line p.rest.now → ReadBy post p (Err (fault_of (rest_of p) Shape))
  unfolding ReadBy
  read_missing e = rw (line_none p.rest.now e) refl

  module _ (line : Line) (e : Some line.bytes.now ≡ next_line p.rest.now) where
    pub read_said : (a : A) → post line (Ok a) → (next : Place) →
        rest_of next ≡ record { line = p.line + 1; text = drop (length line.bytes.now + 1) p.rest.now } → ReadBy post p (Ok (a, next))
    unfolding ReadBy
    read_said a q next n =
        let l = line_some p.rest.now line.bytes.now e in
        rw l.ends (line, Ok a, l.is, q, rw (n, ← l.next) (sym (next_said (λ t. Ok a) (rest_of p) l.ends a refl)))

    pub read_wrong : (f : Fault) → post line (Err f) → ReadBy post p (Err (fault_of (rest_of p) f))
    unfolding ReadBy
    read_wrong f q =
        let l = line_some p.rest.now line.bytes.now e in
        rw l.ends (line, Err f, l.is, q, sym (next_wrong (λ t. Err f) (rest_of p) l.ends f refl))

-- What was read by a call that reads a line as `read` does.
pub read_by : {A : Type 0} {post : Line → Result A Fault → Type 0} (read : List ℕ → Result A Fault) (p : Place) (r : Result (A × Place) LineFault) →
    ReadBy post p r → ((line : Line) (said : Result A Fault) → post line said → said ≡ read line.bytes.now) → read_to r ≡ next_by read (rest_of p)
unfolding ReadBy
read_by {A} {post} read p r w h = go (ahead 10 p.rest.now) refl w
  where
    go : (b : Bool) → ahead 10 p.rest.now ≡ b →
        cond b
        ((line : Line) × (said : Result A Fault) × (line.bytes.now ≡ until 10 p.rest.now) × post line said × (read_to r ≡ next_by (λ t. said) (rest_of p)))
        (read_to r ≡ Err (fault_of (rest_of p) Shape)) → read_to r ≡ next_by read (rest_of p)
    go true b (line, said, e, q, z) = z ∙ next_same (λ t. said) read (rest_of p) (h line said q ∙ ap read e)
    go false b z = z ∙ sym (next_missing read (rest_of p) b)
