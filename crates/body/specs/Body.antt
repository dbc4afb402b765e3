-- The lines of a sheet after its H line, in order (document 01, 'The sheet'): "l lines L", "l × l lines S .. by level left and
-- then level entered", "For each job: J, name .. then l lines B".
-- Assumes nothing.
use Rattle.std.specs.Prelude.{ℕ, zero, suc, ◌+◌, ◌*◌, Result, Ok}
use Rattle.std.specs.Result.{result_map_both}
use Rattle.fields.specs.Fields.{after}
use Rattle.reading.specs.declared.LineFault.{LineFault}
use Rattle.reading.specs.Rest.{Rest, next_by}
use Rattle.name_lines.specs.Name.{name_fault}
use Rattle.store.specs.declared.Store.{Store}
use Rattle.store.specs.Store.{jobs_max, levels_max}
use Rattle.line_kinds.specs.declared.Kind.TheVariants.{Level, Change, Work}
use Rattle.lines.specs.Lines.{Found, stop, block_from}

-- The lines of a job on a sheet of l levels: its J line and l lines B.
abbrev pub job_lines : ℕ → ℕ
job_lines l = l + 1

-- The lines before the L lines: the V line and the H line.
abbrev pub head_lines : ℕ
head_lines = 2

-- How many lines come before the J line of job i, from 0: the V line and the H line, l lines L, l × l lines S, and those of each
-- job before it.
abbrev pub lines_before : ℕ → ℕ → ℕ
lines_before l i = head_lines + l + l * l + i * job_lines l

-- The largest number of the line after the last.
abbrev pub end_line : ℕ
end_line = lines_before levels_max jobs_max + 1

-- Where lines are sound, the reading goes on with what is left of the text and with the store.
abbrev pub onward : Found → (Rest → Store → Found) → Found
onward f go = after f.read (stop f.store) (λ r. go r f.store)

-- The S lines of the next n of l levels left, from level p on.
unfoldable pub changes_from : ℕ → ℕ → ℕ → Rest → Store → Found
changes_from l zero p r st = record { read = Ok r; store = st }
changes_from l (suc n) p r st = onward (block_from (Change p) (p * levels_max) l 0 r st) (changes_from l n (p + 1))

-- "J, name": what is left behind the next line, or its fault.
unfoldable pub name_from : Rest → Result Rest LineFault
name_from r = result_map_both (λ name. name.1) (λ f. f) (next_by name_fault r)

-- The lines of the next n jobs, from job i on.
unfoldable pub jobs_from : ℕ → ℕ → ℕ → Rest → Store → Found
jobs_from l zero i r st = record { read = Ok r; store = st }
jobs_from l (suc n) i r st =
    after (next_by name_fault r) (stop st) (λ name. onward (block_from Work (i * levels_max) l 0 name.1 st) (jobs_from l n (i + 1)))

-- All lines after the H line of a sheet of m jobs and l levels.
unfoldable pub body_from : ℕ → ℕ → ℕ → Rest → Store → Found
body_from m l resistance r st =
    onward (onward (block_from (Level resistance) 0 l 0 r st) (changes_from l l 0)) (jobs_from l m 0)
