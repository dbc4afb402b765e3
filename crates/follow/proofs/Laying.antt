-- What the code lays in the place of a level's words, first the map and then the rows, follows the job.
-- Assumes nothing.
use mathlib.Core.Path.{◌≡◌, sym, ap, ◌∙◌}
use mathlib.Core.List.{List}
use Prim.Native.Nat.{ℕ, suc, ◌+◌, ◌*◌, ◌-◌, ◌≤◌, ◌<◌}
use native.Mathlib.Nat.{zero-add}
use native.Mathlib.Decide.{dec_lt}
use native.Mathlib.Omega.{arith}
use lib.Dec.{ltb}
use lib.ListN.{get_or, length}
use Rattle.std.specs.Prelude.{Option, Some, None, IfSome}
use Rattle.std.specs.Bool.{then_some}
use borrow.Author.Tests.{lt-ltb, le-ltb}
use borrow.Rule.Slice.PartMut.{put_mid}
use Rattle.frame.specs.Sheet.{Sheet}
use Rattle.frame.specs.Table.{tabulate, need, temperature_cells}
use Rattle.frame.proofs.Tabulate.{length_tabulate, get_d_tabulate}
use Rattle.table.specs.declared.axes.Frame.{Frame}
use Rattle.table.specs.Table.{Axes, cells, base, Holds}
use Rattle.spans.specs.Spans.{Spans}
use Rattle.spans.proofs.Stepping.{spans_within}
use Rattle.cell_map.specs.declared.rows.Rows.{Rows}
use Rattle.cell_map.specs.Rows.{gathered, finished, Rising, Behind}
use Rattle.expand.specs.Laid.{laid}
use Rattle.next_cells.specs.Next.{next_cell}
use Rattle.follow.specs.Follow.{follows_at, Kept, Follows}
use Rattle.table.proofs.Frames.{temperature_count}
use Rattle.table.proofs.Places.{base_next, base_within, cells_by, job_by, one_level, last_row, at_by, at_is, at_need, next_is, next_need}
use Rattle.next_cells.proofs.Warming.{cell_stays}
use Rattle.follow.proofs.Rows.{gathered_follows, finished_follows}
use Rattle.follow.proofs.Keeping.{kept_both, kept_spans, holds_kept}

module _ {s : Sheet} {f : Frame} (g : Axes s f) (i j : ℕ) (hi : i < s.jobs) (hj : j < s.levels) where
  abbrev at : ℕ
  at = at_by f i j

  abbrev last : ℕ
  last = at + (f.energy_cells - 1) * f.temperature_cells

  -- Where the next job's rows begin.
  abbrev next_at : ℕ
  next_at = at + f.head.levels * f.energy_cells * f.temperature_cells

  -- That place, where there is a next job.
  abbrev pub Next : Option ℕ → Type 0
  Next next = next ≡ then_some (ltb (i + 1) f.head.jobs) next_at

  by_next : {next : Option ℕ} → Next next → (P : Option ℕ → Type 0) → (suc i < s.jobs → P (Some next_at)) → (s.jobs ≤ suc i → P None) → P next
  by_next n P some none =
      elim (dec_lt (i + 1) f.head.jobs) [
        | yes h ↦ rw (n, lt-ltb (i + 1) f.head.jobs h) (some (omega (arith, h, g.jobs)))
        | no h ↦ let k : f.head.jobs ≤ i + 1 = omega arith in rw (n, le-ltb (i + 1) f.head.jobs k) (none (omega (arith, k, g.jobs)))
      ]

  -- The next job's rows stand behind the level's, and in the table.
  pub next_behind : (t : List ℕ) (r : Rows) {next : Option ℕ} → r.at ≡ at → r.count * r.width ≡ f.energy_cells * f.temperature_cells → need s ≤ length t → Next next →
      IfSome next (λ p. Behind t r p)
  next_behind t r e w room n =
      by_next n (λ o. IfSome o (λ p. Behind t r p))
      (λ h. record { behind = omega (arith, e, w, cells_by g, job_by g, one_level g); room = omega (arith, w, next_is g i j hi hj, next_need g i j hi hj h, cells_by g, room) })
      (λ h. tt)

  -- The last row, once it has come back with the map.
  pub map_laid : {old row : List ℕ} {q : ℕ} → need s ≤ length old → q ≡ last → row ≡ tabulate (next_cell s i j) 0 (temperature_cells s) →
      Spans old (put_mid q (q + f.temperature_cells - q) old row) last (temperature_cells s) (next_cell s i j)
  map_laid {old} {row} {q} room p e =
      let n = temperature_cells s in
      let h = next_cell s i j in
      rw (← p)
      (spans_within old row q n _ (omega (arith, p, room, at_is g i j hi hj, at_need g i j hi hj, last_row g, temperature_count g)) (omega (arith, temperature_count g)) (ap length e ∙ length_tabulate h 0 n)
      (λ k l. ap (λ (r : List ℕ). get_or r k 0) e ∙ get_d_tabulate h 0 n k l ∙ ap h (zero-add k)))

  module _ {old mid : List ℕ} (m : Spans old mid last (temperature_cells s) (next_cell s i j)) where
    map_kept : Kept (base s i j) (base s i j + cells s) old mid
    map_kept = kept_spans (omega (arith, at_is g i j hi hj)) (omega (arith, at_is g i j hi hj, last_row g, temperature_count g)) m

    pub map_rising : Rising mid last f.temperature_cells
    map_rising =
        record {
          stays = λ b c l k w.
              let z = temperature_count g in
              let v : temperature_cells s ≤ next_cell s i j b = omega (arith, z, m.inside b (omega (arith, z))) in
              omega (arith, z, m.inside c (omega (arith, z)), cell_stays s g.ranges i j b c l v);
        }

    module _ {new : List ℕ} {h : ℕ → ℕ} (r : Spans mid new at (f.energy_cells * f.temperature_cells) h) (e : (y : ℕ) → y < cells s → h y ≡ follows_at s i j y) where
      level_laid : Follows s i j old new
      level_laid =
          record {
            words = λ y l. ap (λ (q : ℕ). get_or new (q + y) 0) (sym (at_is g i j hi hj)) ∙ r.inside y (omega (arith, l, cells_by g)) ∙ e y l;
            kept = kept_both map_kept (kept_spans (omega (arith, at_is g i j hi hj)) (omega (arith, at_is g i j hi hj, cells_by g)) r);
          }

    gathered_laid : {new : List ℕ} → Holds s old (suc i) → suc i < s.jobs →
        Spans mid new at (f.energy_cells * f.temperature_cells) (gathered mid last next_at f.temperature_cells) →
        Follows s i j old new
    gathered_laid held hn r =
        level_laid r
        (λ y l.
        rw (next_is g i j hi hj, temperature_count g)
        (gathered_follows s i j mid _ (λ b k. rw (← temperature_count g) (m.inside b k)) hn hj (holds_kept s (omega (arith, base_next s i 0, base_within s i j hj)) map_kept held) y l))

    finished_laid : {new : List ℕ} → s.jobs ≤ suc i →
        Spans mid new at (f.energy_cells * f.temperature_cells) (finished mid last f.temperature_cells) →
        Follows s i j old new
    finished_laid hn r = level_laid r (λ y l. rw (temperature_count g) (finished_follows s i j mid _ (λ b k. rw (← temperature_count g) (m.inside b k)) hn y))

    pub rows_laid : {new : List ℕ} {next : Option ℕ} → Holds s old (suc i) → Next next →
        Spans mid new at (f.energy_cells * f.temperature_cells) (λ (y : ℕ). laid mid last next f.temperature_cells y) →
        Follows s i j old new
    rows_laid {new} held n r =
        by_next n (λ o. Spans mid new at (f.energy_cells * f.temperature_cells) (λ (y : ℕ). laid mid last o f.temperature_cells y) → Follows s i j old new)
        (gathered_laid held)
        finished_laid
        r
