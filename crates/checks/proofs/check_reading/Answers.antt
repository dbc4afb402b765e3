-- The refusal is that of the first test that fails.
use borrow.Author.Rules.{rules}
use Rattle.store.specs.Figures.{sheet_of}
use Rattle.checks.specs.Checks.{fault_of}
use Rattle.checks.proofs.check_reading.Goals as goal

pub returns-then-head-a : goal.returns-then-head-a
unfolding sheet_of fault_of
returns-then-head-a c = λ store. search rules

pub returns-then-head-a-2 : goal.returns-then-head-a-2
unfolding sheet_of fault_of
returns-then-head-a-2 c = λ store. search rules

pub returns-then-a : goal.returns-then-a
unfolding sheet_of fault_of
returns-then-a c = λ store. search rules

pub returns-then-a-2 : goal.returns-then-a-2
unfolding sheet_of fault_of
returns-then-a-2 c = λ store. search rules

pub returns-then-a-3 : goal.returns-then-a-3
unfolding sheet_of fault_of
returns-then-a-3 c = λ store. search rules

pub returns-then-head-a-3 : goal.returns-then-head-a-3
unfolding sheet_of fault_of
returns-then-head-a-3 c = λ store. search rules

pub returns : goal.returns
unfolding sheet_of fault_of
returns c = λ store. search rules
