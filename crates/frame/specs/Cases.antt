-- The worked cases of document 01 ('One sheet, whole' and 'Near the mark, but wrong') as rows of one list: the printed sheet
-- with the named fields changed, and the answer that document 01 prints, or document 02 where that changes it. `proofs/Cases.antt`
-- shows that the definitions give each of them. Every starred case is here; after them come cases that pin what the starred ones
-- leave open, some of the documents' own and some worked by hand.
-- Assumes nothing.
use Rattle.std.specs.Prelude.{List, [], ◌∷◌, ℕ, ◌+◌, ◌*◌, ℤ, pos, neg_ℤ, get_or}
use Rattle.thermal.specs.Thermal.{steady_state, temperature_after}
use Rattle.frame.specs.Sheet.{Sheet}
use Rattle.frame.specs.Run.{State, start, rounded_run}
use Rattle.frame.specs.Limits.{Limits, energy_slack, temperature_slack, tightened, Margins, margins}
use Rattle.frame.specs.Demands.{Outcome, planned, no_plan, Figures, figures}
use Rattle.frame.specs.Plan.{outcome}
use Rattle.frame.specs.Table.{need, place, word}
use Rattle.frame.specs.Afresh.{reading, jobs_left, tightened_left, ran_to}

-- What a case has for an answer: a plan's levels and figures, a refusal's number, a measured list's margins, limits, or a number.
pub data CaseAnswer : Type 0 where
  plan_is : List ℕ → Figures → CaseAnswer
  refusal_is : ℕ → CaseAnswer
  margins_are : Margins → CaseAnswer
  limits_are : Limits → CaseAnswer
  number_is : ℕ → CaseAnswer

-- The answer for the jobs left from a state; "no plan" is refusal 10.
abbrev pub answer_from : Sheet → State → Outcome → CaseAnswer
answer_from s a (planned js) = plan_is js (figures s a js)
answer_from s a no_plan = refusal_is 10

-- The figure in row i and column j.
abbrev pub entry : List (List ℕ) → ℕ → ℕ → ℕ
entry rows i j = get_or (get_or rows i []) j 0

-- A sheet by its lines: the figures of the H line, of the L lines, of the S lines and of the B lines.
abbrev pub sheet_from : List ℕ → List ℕ → List (List ℕ) → List (List ℕ) → Sheet
sheet_from H L S B =
    record {
      jobs = get_or H 0 0;
      levels = get_or H 1 0;
      start_level = get_or H 2 0;
      deadline = get_or H 3 0;
      energy_budget = get_or H 4 0;
      temperature_limit = get_or H 5 0;
      start_temperature = get_or H 6 0;
      resistance = get_or H 7 0;
      energy_step = get_or H 8 0;
      temperature_step = get_or H 9 0;
      power = λ j. get_or L j 0;
      change_time = λ p j. entry S (p * get_or H 1 0 + j) 0;
      change_energy = λ p j. entry S (p * get_or H 1 0 + j) 1;
      job_time = λ i j. entry B (i * get_or H 1 0 + j) 0;
      job_energy = λ i j. entry B (i * get_or H 1 0 + j) 1;
      decay = λ i j. entry B (i * get_or H 1 0 + j) 2;
    }

-- The printed sheet's L, S and B lines.
abbrev pub printed_l : List ℕ
printed_l = 10000 ∷ 20000 ∷ []

abbrev pub printed_s : List (List ℕ)
printed_s = (0 ∷ 0 ∷ []) ∷ (2 ∷ 3 ∷ []) ∷ (1 ∷ 3 ∷ []) ∷ (0 ∷ 0 ∷ []) ∷ []

abbrev pub printed_b : List (List ℕ)
printed_b = (30 ∷ 20 ∷ 32768 ∷ []) ∷ (18 ∷ 45 ∷ 32768 ∷ []) ∷ (28 ∷ 25 ∷ 32768 ∷ []) ∷ (15 ∷ 40 ∷ 32768 ∷ []) ∷ []

-- The printed sheet, with D, W, C, g and h as named.
abbrev pub sheet : ℕ → ℕ → ℕ → ℕ → ℕ → Sheet
sheet D W C g h = sheet_from (2 ∷ 2 ∷ 0 ∷ D ∷ W ∷ C ∷ 1000 ∷ 2000 ∷ g ∷ h ∷ []) printed_l printed_s printed_b

-- "A sheet of its own with one job, two equal levels, free changes, that has a plan".
abbrev pub equal_levels : Sheet
equal_levels =
    sheet_from
    (1 ∷ 2 ∷ 0 ∷ 50 ∷ 100 ∷ 2500 ∷ 1000 ∷ 2000 ∷ 10 ∷ 100 ∷ [])
    (10000 ∷ 10000 ∷ [])
    ((0 ∷ 0 ∷ []) ∷ (0 ∷ 0 ∷ []) ∷ (0 ∷ 0 ∷ []) ∷ (0 ∷ 0 ∷ []) ∷ [])
    ((30 ∷ 20 ∷ 32768 ∷ []) ∷ (30 ∷ 20 ∷ 32768 ∷ []) ∷ [])

-- A sheet of our own whose one job cools: its level has no power, and it starts at 2,000.
abbrev pub cooling : Sheet
cooling =
    sheet_from
    (1 ∷ 1 ∷ 0 ∷ 50 ∷ 100 ∷ 2500 ∷ 2000 ∷ 2000 ∷ 10 ∷ 100 ∷ [])
    (0 ∷ [])
    ((0 ∷ 0 ∷ []) ∷ [])
    ((30 ∷ 20 ∷ 32768 ∷ []) ∷ [])

-- A sheet of our own whose one job, of decay 0, ends at the steady-state temperature of power P and resistance R.
abbrev pub steady : ℕ → ℕ → ℕ → Sheet
steady P R C = sheet_from (1 ∷ 1 ∷ 0 ∷ 30 ∷ 20 ∷ C ∷ 0 ∷ R ∷ 1 ∷ 1 ∷ []) (P ∷ []) ((0 ∷ 0 ∷ []) ∷ []) ((30 ∷ 20 ∷ 0 ∷ []) ∷ [])

-- A sheet of our own with three jobs and three levels, on which no change is like its way back and no figure of a kind like
-- another; the first job may change level.
abbrev pub unequal : ℕ → ℕ → ℕ → Sheet
unequal D W C =
    sheet_from
    (3 ∷ 3 ∷ 1 ∷ D ∷ W ∷ C ∷ 1010 ∷ 2000 ∷ 10 ∷ 25 ∷ [])
    (7000 ∷ 13000 ∷ 16000 ∷ [])
    ((0 ∷ 0 ∷ []) ∷ (5 ∷ 11 ∷ []) ∷ (2 ∷ 13 ∷ []) ∷ (3 ∷ 7 ∷ []) ∷ (0 ∷ 0 ∷ []) ∷ (6 ∷ 17 ∷ []) ∷ (4 ∷ 19 ∷ []) ∷ (8 ∷ 23 ∷ []) ∷ (0 ∷ 0 ∷ []) ∷ [])
    ((100 ∷ 20 ∷ 16384 ∷ []) ∷ (61 ∷ 33 ∷ 32768 ∷ []) ∷ (41 ∷ 52 ∷ 24576 ∷ []) ∷ (90 ∷ 24 ∷ 8192 ∷ []) ∷ (47 ∷ 40 ∷ 49152 ∷ []) ∷ (35 ∷ 58 ∷ 40960 ∷ []) ∷ (80 ∷ 26 ∷ 4096 ∷ []) ∷ (53 ∷ 37 ∷ 57344 ∷ []) ∷ (29 ∷ 60 ∷ 20480 ∷ []) ∷ [])

-- What the definitions give, and what is expected of them.
pub record Case : Type 0 where
  pub given : CaseAnswer
  pub expected : CaseAnswer

-- The jobs left from a state planned: the levels, and the plan's time, energy and final temperature.
abbrev pub plans_from : Sheet → State → List ℕ → ℕ → ℕ → ℕ → Case
plans_from s a js time energy temperature =
    record {
      given = answer_from s a (outcome s (jobs_left s a) a);
      expected = plan_is js (record { time = time; energy = energy; temperature = temperature });
    }

-- A sheet planned, from its start.
abbrev pub plans : Sheet → List ℕ → ℕ → ℕ → ℕ → Case
plans s js time energy temperature = plans_from s (start s) js time energy temperature

-- The jobs left from a state refused: the refusal's number.
abbrev pub refuses_from : Sheet → State → ℕ → Case
refuses_from s a number = record { given = answer_from s a (outcome s (jobs_left s a) a); expected = refusal_is number }

-- A sheet refused.
abbrev pub refuses : Sheet → ℕ → Case
refuses s number = refuses_from s (start s) number

-- A list measured on a sheet: the three margins.
abbrev pub measures : Sheet → List ℕ → ℤ → ℤ → ℤ → Case
measures s js time energy temperature =
    record {
      given = margins_are (margins s js);
      expected = margins_are (record { time = time; energy = energy; temperature = temperature });
    }

-- Tightened limits.
abbrev pub tightens : Limits → ℤ → ℤ → ℤ → Case
tightens k time energy temperature =
    record {
      given = limits_are k;
      expected = limits_are (record { time = time; energy = energy; temperature = temperature });
    }

-- A figure by itself.
abbrev pub gives : ℕ → ℕ → Case
gives n number = record { given = number_is n; expected = number_is number }

-- The printed sheet gives "same", the plan that document 01 prints for it.
abbrev pub same : Sheet → Case
same s = plans s (1 ∷ 0 ∷ []) 49 76 2250

-- T and s, a temperature and a steady-state temperature, are those of the row "Decay 65,536: T": it holds for every two.
abbrev pub cases : ℕ → ℕ → List Case
cases T s =
    -- the sheet as printed
    same (sheet 50 100 2500 10 100)
    -- "D 49: same. D 48: 10."
    ∷ same (sheet 49 100 2500 10 100)
    ∷ refuses (sheet 48 100 2500 10 100) 10
    -- "C 2499: 10. C 2499 and D 58: levels 0, 0; 58, 45, 1750."
    ∷ refuses (sheet 50 100 2499 10 100) 10
    ∷ plans (sheet 58 100 2499 10 100) (0 ∷ 0 ∷ []) 58 45 1750
    -- "h 300: 10, as 1,000 is raised to 1,200 and log then ends at 2,600."
    ∷ refuses (sheet 50 100 2500 10 300) 10
    -- "W 78: same plan. W 77: 10. W 76 and g 1: same plan."
    ∷ same (sheet 50 78 2500 10 100)
    ∷ refuses (sheet 50 77 2500 10 100) 10
    ∷ same (sheet 50 76 2500 1 100)
    -- "Levels 0, 1 measured: margins 3, 37, −250."
    ∷ measures (sheet 50 100 2500 10 100) (0 ∷ 1 ∷ []) (pos 3) (pos 37) (neg_ℤ (pos 250))
    -- document 02, W2: "The starred case of 275 changes", that of 1,500 and 1,830: "274.5 becomes 274 and 275.5 becomes 276"
    ∷ gives (steady_state 1500 1830) 274
    ∷ gives (steady_state 1450 1900) 276
    -- W2: "20,000.5 is now lawful"; by hand: 20,001.5 is not (read and refused: crates/sheet/specs/Cases.antt)
    ∷ gives (steady_state 40001 5000) 20000
    ∷ gives (steady_state 40003 5000) 20002
    -- "Decay 1, T 1, steady rise 0: 1. Decay 65,536: T."
    ∷ gives (temperature_after 1 0 1) 1
    ∷ gives (temperature_after T s 65536) T
    -- not starred: "With h 1000 the example keeps levels 1, 0"; it shuts out a temperature limit tested after raising
    ∷ same (sheet 50 100 2500 10 1000)
    -- not starred: two equal levels give "level 0"
    ∷ plans equal_levels (0 ∷ []) 30 20 1500
    -- not starred: "Its need is 1,144 words", and "need 4,194,304" for m 64, l 8, W 63, g 1, C 127, h 1
    ∷ gives (need (sheet 50 100 2500 10 100)) 1144
    ∷ gives (need (sheet_from (64 ∷ 8 ∷ 0 ∷ 0 ∷ 63 ∷ 127 ∷ 0 ∷ 0 ∷ 1 ∷ 1 ∷ []) [] [] [])) 4194304
    -- by hand: A is 11 and B 26, so the place is ((1 × 2 + 1) × 11 + 3) × 26 + 5
    ∷ gives (place (sheet 50 100 2500 10 100) 1 1 3 5) 941
    -- by hand: the start state's word is the plan's time; with energy 100 spent no level of send stays within W
    ∷ gives (word (sheet 50 100 2500 10 100) 0 0 0 10) 49
    ∷ gives (word (sheet 50 100 2500 10 100) 1 0 10 0) 4294967295
    -- by hand: demand 3 takes (2 − 1) × (10 − 1) off W and 2 × (100 − 1) off C
    ∷ gives (energy_slack (sheet 50 100 2500 10 100)) 9
    ∷ gives (temperature_slack (sheet 50 100 2500 10 100)) 198
    -- by hand: the plan's own margins; its highest temperature is not its last
    ∷ measures (sheet 50 100 2500 10 100) (1 ∷ 0 ∷ []) (pos 1) (pos 24) (pos 0)
    -- by hand: 50 - 30, 100 - 20, and 2,500 - 1,000, as the start temperature does not count
    ∷ measures cooling (0 ∷ []) (pos 20) (pos 80) (pos 1500)
    -- by hand: its plan ends cooler than it starts
    ∷ plans cooling (0 ∷ []) 30 20 1000
    -- by hand: the figures of the exact run, from a start temperature that is no multiple of h; and A and B rounded up
    ∷ plans (sheet 58 100 2500 10 300) (0 ∷ 0 ∷ []) 58 45 1750
    ∷ gives (need (sheet 50 77 2499 10 100)) 936
    -- by hand: 6 + 41 + 4 + 90 + 5 + 53 = 199, 17 + 52 + 19 + 24 + 11 + 37 = 160, and 1,010 goes to 2,379, 1,523 and 1,658
    ∷ measures (unequal 300 200 2500) (2 ∷ 0 ∷ 1 ∷ []) (pos 101) (pos 40) (pos 121)
    -- by hand: of all 27 lists the one of least time; 1,010 goes to 1,303, 1,628 and 1,415
    ∷ plans (unequal 300 130 1700) (0 ∷ 1 ∷ 0 ∷ []) 238 111 1415
    -- by hand: the tightened limits, and where they fall below zero
    ∷ tightens (tightened (sheet 50 100 2500 10 100)) (pos 50) (pos 91) (pos 2302)
    ∷ tightens (tightened (sheet 50 5 100 10 100)) (pos 50) (neg_ℤ (pos 4)) (neg_ℤ (pos 98))
    -- "log ends at 2,500, send starts from 3,000 and ends at 2,500", with energy 48 raised to 50
    ∷ gives (rounded_run (sheet 50 100 2500 10 1000) (start (sheet 50 100 2500 10 1000)) (1 ∷ 0 ∷ [])).temperature 2500
    ∷ gives (rounded_run (sheet 50 100 2500 10 1000) (start (sheet 50 100 2500 10 1000)) (1 ∷ 0 ∷ [])).energy 78
    -- document 02, W1, all by hand. After log at level 1 as planned, read as planned: send at 0, and the totals count on from 48
    ∷ plans_from (sheet 49 100 2500 10 100) (reading 1 1 20 48 2500) (0 ∷ []) 49 76 2250
    -- one unit above the plan's run, of time and, with g 1, of energy: no plan is promised, and there is none
    ∷ refuses_from (sheet 49 100 2500 10 100) (reading 1 1 21 48 2500) 10
    ∷ plans_from (sheet 50 76 2500 1 100) (reading 1 1 20 48 2500) (0 ∷ []) 49 76 2250
    ∷ refuses_from (sheet 50 76 2500 1 100) (reading 1 1 20 49 2500) 10
    -- and of temperature, after log at level 0: 1,501 is raised to 1,600, and send at 1 then ends at 2,800
    ∷ plans (sheet 47 63 2750 10 100) (0 ∷ 1 ∷ []) 47 63 2750
    ∷ plans_from (sheet 47 63 2750 10 100) (reading 1 0 30 20 1500) (1 ∷ []) 47 63 2750
    ∷ refuses_from (sheet 47 63 2750 10 100) (reading 1 0 30 20 1501) 10
    -- the energy read is raised: 51 + 28 is 79, but 60 + 28 is 88
    ∷ refuses_from (sheet 50 87 2500 10 100) (reading 1 1 20 51 2500) 10
    ∷ plans_from (sheet 50 88 2500 10 100) (reading 1 1 20 51 2500) (0 ∷ []) 49 79 2250
    -- cooler and cheaper than planned: send at 1 ends at 2,450
    ∷ plans_from (sheet 49 100 2500 10 100) (reading 1 1 18 40 900) (1 ∷ []) 33 80 2450
    -- no job is done, the level is another, and 7 and 1,500 are there already: 1 + 30 + 28 and 3 + 20 + 25 more
    ∷ plans_from (sheet 64 100 2500 10 100) (reading 0 1 5 7 1500) (0 ∷ 0 ∷ []) 64 55 1875
    -- energy or time past its limit
    ∷ refuses_from (sheet 50 100 2500 10 100) (reading 1 1 20 101 1000) 10
    ∷ refuses_from (sheet 50 100 2500 10 100) (reading 1 1 51 48 1000) 10
    -- one job still to do takes 9 off W and 99 off C, two take 18 and 198
    ∷ tightens (tightened_left (sheet 50 100 2500 10 100) 1) (pos 50) (pos 91) (pos 2401)
    ∷ tightens (tightened_left (sheet 50 100 2500 10 100) 2) (pos 50) (pos 82) (pos 2302)
    -- the run of levels 1, 0 so far: no job, and log
    ∷ gives (ran_to (sheet 50 100 2500 10 100) (start (sheet 50 100 2500 10 100)) (1 ∷ 0 ∷ []) 0).level 0
    ∷ gives (ran_to (sheet 50 100 2500 10 100) (start (sheet 50 100 2500 10 100)) (1 ∷ 0 ∷ []) 1).level 1
    ∷ gives (ran_to (sheet 50 100 2500 10 100) (start (sheet 50 100 2500 10 100)) (1 ∷ 0 ∷ []) 1).energy 48
    -- W2: "plans are compared under the new rise"; by hand: 274.5 meets a limit of 274, and 275.5 breaks one of 275
    ∷ plans (steady 1500 1830 274) (0 ∷ []) 30 20 274
    ∷ refuses (steady 1500 1830 273) 10
    ∷ plans (steady 1450 1900 276) (0 ∷ []) 30 20 276
    ∷ refuses (steady 1450 1900 275) 10
    ∷ []
