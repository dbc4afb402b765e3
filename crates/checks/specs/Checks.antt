-- The checks that follow the sheet's own (document 01, 'What is refused'; document 02, W1), each by its refusal, where it refuses.
-- Assumes nothing.
use Rattle.std.specs.Prelude.{cond, ℕ, leb, ltb, Option, Some, None}
use Rattle.frame.specs.Sheet.{Sheet, limit_max, temperature_max}
use Rattle.frame.specs.Run.{State}
use Rattle.frame.specs.Table.{words_max}
use Rattle.refusal.specs.declared.Refusal.{Refusal}
use Rattle.refusal.specs.declared.Refusal.TheVariants.{TableTooLarge, TableShort, PartShort, AllDone, ReadingRange, ReadingHot}

-- What is lacking of the memory lent, where n levels are to be written: 7 for a "need above 4,194,304 words", 8 for a "table shorter
-- than the need", 9 for a "part under m bytes", and afresh "9 is judged by their count" (that of "the remaining levels").
unfoldable pub lack_of : ℕ → ℕ → ℕ → ℕ → Option Refusal
lack_of need n words bytes =
    cond (ltb words_max need) (Some TableTooLarge)
    (cond (ltb words need) (Some TableShort)
    (cond (ltb bytes n) (Some PartShort) None))

-- What is wrong with a reading: "13 where jobs done is m or more; 14 where the level is l or more, time or energy is above
-- 2,000,000,000, or temperature is above 20,000; then that 5", which is "A reading above the ceiling".
unfoldable pub fault_of : Sheet → State → Option Refusal
fault_of s a =
    cond (leb s.jobs a.done) (Some AllDone)
    (cond (leb s.levels a.level) (Some ReadingRange)
    (cond (ltb limit_max a.time) (Some ReadingRange)
    (cond (ltb limit_max a.energy) (Some ReadingRange)
    (cond (ltb temperature_max a.temperature) (Some ReadingRange)
    (cond (ltb s.temperature_limit a.temperature) (Some ReadingHot) None)))))
