-- What the logger's firmware gets as numbers (document 01, 'The logger's call and `plan`'): "a signed number: bytes written, or minus
-- the refusal", and the figures of the planner's reply and of the measuring call, each in its place.
-- Assumes nothing.
use Rattle.std.specs.Prelude.{cond, List, [], ◌∷◌, ℕ, eqb, ℤ, pos, neg_ℤ, nat_abs, get_or, Result, Ok, Err}
use Rattle.refusal.specs.declared.Refusal.{Refusal}
use Rattle.refusal.specs.Code.{number_of}
use Rattle.measure.specs.Measure.{Measured}
use Rattle.reply.specs.Reply.{Reply}

-- "minus the refusal"; 0 where there is none.
abbrev pub minus : ℕ → ℤ
minus refusal = neg_ℤ (pos refusal)

-- What is counted, or minus the refusal: "bytes written, or minus the refusal".
abbrev pub count_or_refusal : ℕ → ℕ → ℤ
count_or_refusal refusal count = cond (eqb refusal 0) (pos count) (minus refusal)

-- The same by what is handed back.
abbrev pub number_by : Result ℕ Refusal → ℤ
number_by (Ok count) = count_or_refusal 0 count
number_by (Err f) = count_or_refusal (number_of f) 0

-- The planner's reply, as the seven figures of `struct begbija_reply` hold it.
abbrev pub reply_in : List ℕ → Reply
reply_in w =
    record {
      refusal = get_or w 0 0;
      line = get_or w 1 0;
      field = get_or w 2 0;
      time = get_or w 3 0;
      energy = get_or w 4 0;
      temperature = get_or w 5 0;
      peak = get_or w 6 0;
    }

-- The six figures of `struct begbija_margins`, of what the measuring call says.
abbrev pub figures_of : Measured → List ℤ
figures_of q = pos q.refusal ∷ pos q.line ∷ pos q.field ∷ q.time ∷ q.energy ∷ q.temperature ∷ []

-- What the measuring call says, as these six figures hold it.
abbrev pub measured_in : List ℤ → Measured
measured_in w =
    record {
      refusal = nat_abs (get_or w 0 (pos 0));
      line = nat_abs (get_or w 1 (pos 0));
      field = nat_abs (get_or w 2 (pos 0));
      time = get_or w 3 (pos 0);
      energy = get_or w 4 (pos 0);
      temperature = get_or w 5 (pos 0);
    }
