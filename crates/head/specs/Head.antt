-- The V line and the H line (document 01, 'The sheet'): their figures, or the first fault.
-- Assumes nothing.
use Rattle.std.specs.Prelude.{cond, List, [], ◌∷◌, ℕ, ◌-◌, get_or, Result, Ok, Err}
use Rattle.text.specs.Text.{beyond}
use Rattle.fields.specs.Fields.{opens, from_to, numbers_from, fields_of, after}
use Rattle.fields.specs.declared.Fault.{Fault}
use Rattle.fields.specs.declared.Fault.TheVariants.{Shape}
use Rattle.fields.specs.declared.Range.{Range}
use Rattle.store.specs.declared.Head.{Head}
use Rattle.frame.specs.Sheet.{jobs_max, levels_max, limit_max, temperature_max, resistance_max}

-- The figures of the V line and of the H line by their names: m and l, and then the others.
abbrev pub head_as : ℕ → List ℕ → List ℕ → Head
head_as version counts others =
    record {
      version = version;
      jobs = get_or counts 0 0;
      levels = get_or counts 1 0;
      start_level = get_or others 0 0;
      deadline = get_or others 1 0;
      energy_budget = get_or others 2 0;
      temperature_limit = get_or others 3 0;
      start_temperature = get_or others 4 0;
      resistance = get_or others 5 0;
      energy_step = get_or others 6 0;
      temperature_step = get_or others 7 0;
    }

-- "V, version: 1."; V is byte 86
unfoldable pub version_fields : List ℕ → Result ℕ Fault
version_fields line = after (fields_of 86 (from_to 1 1 ∷ []) line) Err (λ vs. Ok (get_or vs 0 0))

-- "m (1 to 64), l (1 to 8)"
abbrev pub count_ranges : List Range
count_ranges = from_to 1 jobs_max ∷ from_to 1 levels_max ∷ []

-- "start level (0 to l − 1), deadline D (0 to 2,000,000,000), ration W (same range), ceiling C (0 to 20,000), start temperature (0
-- to 20,000), resistance R (0 to 20,000), energy grain g (1 to 2,000,000,000), temperature grain h (1 to 20,000)"; the start
-- level's range depends on l.
abbrev pub other_ranges : ℕ → List Range
other_ranges start_level_max =
    from_to 0 start_level_max ∷ from_to 0 limit_max ∷ from_to 0 limit_max ∷ from_to 0 temperature_max ∷ from_to 0 temperature_max
    ∷ from_to 0 resistance_max ∷ from_to 1 limit_max ∷ from_to 1 temperature_max ∷ []

-- The others, behind m and l, of the rest t of the line.
unfoldable pub others_of : ℕ → List ℕ → List ℕ → Result Head Fault
others_of version counts t = after (numbers_from (other_ranges (get_or counts 1 0 - 1)) 2 t) Err (λ others. Ok (head_as version counts others.values))

-- The H line, byte 72: m and l, and then the others.
unfoldable pub head_fields : ℕ → List ℕ → Result Head Fault
head_fields version line =
    cond (opens 72 10 line) (after (numbers_from count_ranges 0 (beyond 9 line)) Err (λ counts. others_of version counts.values counts.rest)) (Err Shape)
