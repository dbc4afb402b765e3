-- Lines that document 01 prints ('One sheet, whole'), as rows of one list. `proofs/Cases.antt` shows that the definitions give
-- each of them.
-- Assumes nothing.
use Rattle.std.specs.Prelude.{List, [], ◌∷◌, ℕ}
use Prim.Native.String.{String}
use Rattle.text.specs.Bytes.{bytes_of}
use Rattle.plan_lines.specs.Lines.{plan_line, job_line, refusal_line}

-- A line by the definitions, and as it is printed.
pub record Case : Type 0 where
  pub given : List ℕ
  pub expected : List ℕ

abbrev pub prints : List ℕ → String → Case
prints line text = record { given = line; expected = bytes_of text }

abbrev pub cases : List Case
cases =
    -- "`plan` prints exactly"
    prints (plan_line 2 49 76 2250) "P\t2\t49\t76\t2250\n"
    ∷ prints (job_line (bytes_of "log") 1 20 48 2500) "Q\tlog\t1\t20\t48\t2500\n"
    ∷ prints (job_line (bytes_of "send") 0 49 76 2250) "Q\tsend\t0\t49\t76\t2250\n"
    -- "Empty sheet: R 2 1 0. Version 9: R 4 1 2. Start 2501: R 5 2 8."
    ∷ prints (refusal_line 2 1 0) "R\t2\t1\t0\n"
    ∷ prints (refusal_line 4 1 2) "R\t4\t1\t2\n"
    ∷ prints (refusal_line 5 2 8) "R\t5\t2\t8\n"
    -- by hand: figures of ten digits, with zeros inside and at the end
    ∷ prints (plan_line 64 1020304050 2000000000 20000) "P\t64\t1020304050\t2000000000\t20000\n"
    ∷ []
