-- The refusal is that of the first test that fails.
use borrow.Author.Rules.{rules}
use Rattle.checks.specs.Checks.{lack_of}
use Rattle.checks.proofs.check_memory.Goals as goal

pub returns-then-need-gt-WORDS_MAX : goal.returns-then-need-gt-WORDS_MAX
unfolding lack_of
returns-then-need-gt-WORDS_MAX c = search rules

pub returns-then-words-need : goal.returns-then-words-need
unfolding lack_of
returns-then-words-need c = search rules

pub returns-then-bytes-n : goal.returns-then-bytes-n
unfolding lack_of
returns-then-bytes-n c = search rules

pub returns : goal.returns
unfolding lack_of
returns c = search rules
