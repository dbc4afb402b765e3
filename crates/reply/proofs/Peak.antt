-- What is known of a plan's peak figure, by its definition.
-- Assumes nothing.
use mathlib.Core.List.{List}
use Prim.Native.Nat.{ℕ}
use Rattle.frame.specs.Sheet.{Sheet, Between}
use Rattle.frame.specs.Run.{State, exact_run}
use Rattle.frame.specs.Demands.{planned}
use Rattle.reply.specs.Reply.{Reply}
use Rattle.reply.specs.Answer.{found, Answers}

-- "at least the highest temperature at a job end of that run and at most C"
pub peak_between : (s : Sheet) (n : ℕ) (a : State) (js words words' bytes bytes' : List ℕ) (r : Reply) →
    Answers (found s n a (planned js)) words words' bytes bytes' r → Between (exact_run s a js).peak s.temperature_limit r.peak
peak_between s n a js words words' bytes bytes' r w = w.peak
