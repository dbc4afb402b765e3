-- Laws of the lines of a block: one line more, where the taking and the reading stop, and what is read behind the lines that are taken.
-- Assumes nothing.
use mathlib.Core.Path.{◌≡◌, refl, sym}
use Prim.Native.Nat.{ℕ, zero, suc, ◌+◌, ◌-◌, ◌≤◌, ◌<◌}
use native.Mathlib.Omega.{arith}
use Rattle.std.specs.Prelude.{Option, Some, None, Ok, Err}
use Rattle.std.specs.Option.{option_map_or}
use Rattle.store.specs.declared.Store.{Store}
use Rattle.line_kinds.specs.declared.Kind.{Kind}
use Rattle.line_kinds.specs.declared.Entry.{Entry}
use Rattle.line_kinds.specs.Figures.{fields_for, put}
use Rattle.reading.specs.declared.LineFault.{LineFault}
use Rattle.reading.specs.Rest.{Rest, next_by}
use Rattle.reading.proofs.Rest.{next_taken}
use Rattle.fast_lines.specs.Take.{entry_taken}
use Rattle.fast_lines.proofs.Entries.{entry_at}
use Rattle.lines.specs.Lines.{stop, block_from, Taken, rest_behind, taken_from}

module _ (kind : Kind) (b n : ℕ) where
  -- No line is taken yet.
  pub taken_none : (r : Rest) (st : Store) → taken_from kind b n 0 r st ≡ taken_from kind b (n - 0) 0 r st
  taken_none r st = let none : n - 0 ≡ n = omega arith in rw none refl

  -- Behind j lines.
  module _ (j : ℕ) (r : Rest) (st : Store) where
    pub block_all : n ≤ j → block_from kind b (n - j) j r st ≡ record { read = Ok r; store = st }
    unfolding block_from
    block_all h = let none : n - j ≡ 0 = omega arith in rw none refl

    pub taken_all : n ≤ j → taken_from kind b (n - j) j r st ≡ record { count = j; rest = r; store = st }
    unfolding taken_from
    taken_all h = let none : n - j ≡ 0 = omega arith in rw none refl

    module _ (h : j < n) where
      left : n - j ≡ suc (n - (j + 1))
      left = omega arith

      pub taken_other : None ≡ entry_taken kind j r.text → taken_from kind b (n - j) j r st ≡ record { count = j; rest = r; store = st }
      unfolding taken_from
      taken_other e = rw (left, ← e) refl

      pub taken_on : (entry : Entry) (size : ℕ) → Some (entry, size) ≡ entry_taken kind j r.text →
          taken_from kind b (n - j) j r st ≡ taken_from kind b (n - (j + 1)) (j + 1) (rest_behind size r) (put (b + j) entry st)
      unfolding taken_from
      taken_on entry size e = rw (left, ← e) refl

      pub block_stop : (f : LineFault) → Err f ≡ next_by (fields_for kind j) r → block_from kind b (n - j) j r st ≡ stop st f
      unfolding block_from
      block_stop f e = rw (left, ← e) refl

      pub block_on : (entry : Entry) (next : Rest) → Ok (entry, next) ≡ next_by (fields_for kind j) r →
          block_from kind b (n - j) j r st ≡ block_from kind b (n - (j + 1)) (j + 1) next (put (b + j) entry st)
      unfolding block_from
      block_on entry next e = rw (left, ← e) refl

-- A block is what is left of it behind the lines that are taken.
left_behind : (kind : Kind) (b n j : ℕ) (r : Rest) (st : Store) → let t = taken_from kind b n j r st in
    block_from kind b n j r st ≡ block_from kind b (n + j - t.count) t.count t.rest t.store
unfolding taken_from block_from
left_behind kind b zero j r st = let none : 0 + j - j ≡ 0 = omega arith in rw none refl
left_behind kind b (suc n) j r st = go (left_behind kind b n (j + 1)) (entry_taken kind j r.text) refl
  where
    go : ((rest : Rest) (c : Store) → let t = taken_from kind b n (j + 1) rest c in
        block_from kind b n (j + 1) rest c ≡ block_from kind b (n + (j + 1) - t.count) t.count t.rest t.store) →
        (o : Option (Entry × ℕ)) → entry_taken kind j r.text ≡ o →
        let t : Taken = option_map_or (λ line. taken_from kind b n (j + 1) (rest_behind line.1 r) (put (b + j) line.0 st)) o (record { count = j; rest = r; store = st }) in
        block_from kind b (suc n) j r st ≡ block_from kind b (suc n + j - t.count) t.count t.rest t.store
    go next None e = let all : suc n + j - j ≡ suc n = omega arith in rw all refl
    go next (Some line) e =
        let z = entry_at kind j r.text (sym e) in
        let read = next_taken (fields_for kind j) r line.1 line.0 z.0 z.1 z.2 in
        let same : n + (j + 1) ≡ suc n + j = omega arith in
        rw read (rw same at (next (rest_behind line.1 r) (put (b + j) line.0 st)))

pub block_taken : (kind : Kind) (b n : ℕ) (r : Rest) (st : Store) (t : Taken) → t ≡ taken_from kind b n 0 r st →
    block_from kind b n 0 r st ≡ block_from kind b (n - t.count) t.count t.rest t.store
block_taken kind b n r st t e = let none : n + 0 ≡ n = omega arith in rw e (rw none at (left_behind kind b n 0 r st))
