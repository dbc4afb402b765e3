-- `starts_with` answers as the definition does, by the room and the library's test of the first two bytes.
use mathlib.Core.Path.{refl, ◌∙◌}
use borrow.Author.Tests.{lt-leb}
use Rattle.fast_fields.specs.Take.{starts}
use Rattle.fast_fields.proofs.Line.{starts_test}
use Rattle.fast_fields.proofs.starts_with.Goals as goal

pub returns-then-room-t : goal.returns-then-room-t
returns-then-room-t c = c.starts_with.ensures.value ∙ starts_test _ _ _ c.requires c.if-room-t.true

pub returns-else-room-t : goal.returns-else-room-t
unfolding starts
returns-else-room-t c = rw (lt-leb _ _ c.if-room-t.false) refl
