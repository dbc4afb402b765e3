-- The measuring call in words follows from its equation, and leaves no other answer: by the four ways of the definition, each of
-- which the words tell apart by the reply's number.
-- Assumes nothing.
use mathlib.Core.Path.{◌≡◌, refl, sym, ap, ◌∙◌}
use mathlib.Core.Bool.{cond}
use mathlib.Core.List.{List}
use Prim.Native.Nat.{ℕ, ◌≤◌, ◌<◌}
use native.Mathlib.Decide.{dec_lt}
use native.Mathlib.Omega.{arith}
use lib.ListN.{length, get_or}
use lib.Dec.{eqb, ltb}
use borrow.Author.Tests.{ltb-true, ltb-false, eqb-true, eqb-false}
use Rattle.frame.specs.Sheet.{Sheet}
use Rattle.frame.specs.Demands.{Below}
use Rattle.frame.specs.Limits.{margins}
use Rattle.frame.proofs.Margins.{margins_met, margins_meet}
use Rattle.fields.proofs.Within.{cond_cases}
use Rattle.std.proofs.lemmas.Option.{none-some}
use Rattle.refusal.proofs.Apart.{accepted_ways, accepted_refused}
use Rattle.sheet.specs.Reading.{reading_of, sheet_in}
use Rattle.measure.specs.Measure.{Measured, first_above, refused_measured, measured_as, turned_away, measure_of}
use Rattle.measure.specs.Meaning.{Judged, Meaning}
use Rattle.measure.proofs.Levels.{above_at, below_before, none_below, below_none}

-- ---- the three ways of a list

module _ (s : Sheet) (js : List ℕ) where
  on_length : ¬ (length js ≡ s.jobs) → Judged s js (refused_measured 11 0 0)
  on_length n =
      record {
        eleven = ((λ e. n), (λ h. refl));
        twelve = ((λ e. absurd (omega (arith, e))), (λ h. absurd (n h.0)));
        measured = ((λ e. absurd (omega (arith, e))), (λ h. absurd (n h.size)));
        length_reply = λ e. refl;
        level_reply = λ e. absurd (omega (arith, e));
        level_place = λ e. absurd (omega (arith, e));
        margins_reply = λ e. absurd (omega (arith, e));
        time = λ e. absurd (omega (arith, e));
        energy = λ e. absurd (omega (arith, e));
        temperature = λ e. absurd (omega (arith, e));
        met = λ e. absurd (omega (arith, e));
      }

  module _ (m : length js ≡ s.jobs) where
    on_level : first_above s.levels js < length js → Judged s js (refused_measured 12 0 (first_above s.levels js))
    on_level h =
        let n : ¬ Below s.levels js = λ b. omega (arith, h, below_none s.levels js b) in
        record {
          eleven = ((λ e. absurd (omega (arith, e))), (λ o. absurd (o m)));
          twelve = ((λ e. (m, n)), (λ o. refl));
          measured = ((λ e. absurd (omega (arith, e))), (λ o. absurd (n o.below)));
          length_reply = λ e. absurd (omega (arith, e));
          level_reply = λ e. refl;
          level_place = λ e. (above_at s.levels js h, below_before s.levels js);
          margins_reply = λ e. absurd (omega (arith, e));
          time = λ e. absurd (omega (arith, e));
          energy = λ e. absurd (omega (arith, e));
          temperature = λ e. absurd (omega (arith, e));
          met = λ e. absurd (omega (arith, e));
        }

    on_margins : length js ≤ first_above s.levels js → Judged s js (measured_as (margins s js))
    on_margins h =
        let b = none_below s.levels js h in
        record {
          eleven = ((λ e. absurd (omega (arith, e))), (λ o. absurd (o m)));
          twelve = ((λ e. absurd (omega (arith, e))), (λ o. absurd (o.1 b)));
          measured = ((λ e. record { size = m; below = b }), (λ o. refl));
          length_reply = λ e. absurd (omega (arith, e));
          level_reply = λ e. absurd (omega (arith, e));
          level_place = λ e. absurd (omega (arith, e));
          margins_reply = λ e. refl;
          time = λ e. (margins_met s js).0;
          energy = λ e. (margins_met s js).1;
          temperature = λ e. (margins_met s js).2;
          met = λ e. margins_meet s js;
        }

  judged : let place = first_above s.levels js in
      Judged s js (cond (eqb (length js) s.jobs) (cond (ltb place (length js)) (refused_measured 12 0 place) (measured_as (margins s js))) (refused_measured 11 0 0))
  judged =
      let place = first_above s.levels js in
      cond_cases (Judged s js) (eqb (length js) s.jobs) _ _
      (λ m. cond_cases (Judged s js) (ltb place (length js)) _ _ (λ h. on_level (eqb-true _ _ m) (ltb-true _ _ h)) (λ h. on_margins (eqb-true _ _ m) (ltb-false _ _ h)))
      (λ m. on_length (eqb-false _ _ m))

measure_means : (t js : List ℕ) → Meaning t js (measure_of t js)
unfolding measure_of
measure_means t js =
    record {
      fails = λ f n. accepted_refused turned_away _ n;
      passes = λ e.
          accepted_ways (Judged (sheet_in t) js) (reading_of t).refusal turned_away _ (λ f h. absurd (none-some f (sym e ∙ h))) (λ z. judged (sheet_in t) js);
    }

-- Beside the equation, the words.
pub means : {t js : List ℕ} {q : Measured} → q ≡ measure_of t js → (q ≡ measure_of t js) × Meaning t js q
means {t} {js} e = (e, rw e (measure_means t js))

-- ---- the words leave one answer

-- The first place is where a level is l or more and none before it is.
first_only : (l : ℕ) (js : List ℕ) (k : ℕ) → first_above l js < length js → l ≤ get_or js k 0 → ((i : ℕ) → i < k → get_or js i 0 < l) → k ≡ first_above l js
first_only l js k h a b =
    elim (dec_lt k (first_above l js)) [
      | yes c ↦ absurd (omega (arith, a, below_before l js k c))
      | no c ↦
          elim (dec_lt (first_above l js) k) [
            | yes d ↦ absurd (omega (arith, above_at l js h, b (first_above l js) d))
            | no d ↦ omega arith
          ]
    ]

judged_only : (s : Sheet) (js : List ℕ) (q : Measured) → Judged s js q → let place = first_above s.levels js in
    q ≡ cond (eqb (length js) s.jobs) (cond (ltb place (length js)) (refused_measured 12 0 place) (measured_as (margins s js))) (refused_measured 11 0 0)
judged_only s js q w =
    let place = first_above s.levels js in
    let P : Measured → Type 0 = λ x. q ≡ x in
    cond_cases P (eqb (length js) s.jobs) _ _
    (λ m. cond_cases P (ltb place (length js)) _ _
    (λ h.
    let k = ltb-true place (length js) h in
    let e = w.twelve.1 (eqb-true _ _ m, λ b. omega (arith, k, below_none s.levels js b)) in
    w.level_reply e ∙ ap (refused_measured 12 0) (first_only s.levels js q.field k (w.level_place e).0 (w.level_place e).1))
    (λ h. w.margins_reply (w.measured.1 (record { size = eqb-true _ _ m; below = none_below s.levels js (ltb-false _ _ h) }))))
    (λ m. w.length_reply (w.eleven.1 (eqb-false _ _ m)))

pub meaning_unique : (t js : List ℕ) (q : Measured) → Meaning t js q → q ≡ measure_of t js
unfolding measure_of
meaning_unique t js q w =
    accepted_ways (λ x. q ≡ x) (reading_of t).refusal turned_away _ (λ f h. w.fails f h)
    (λ e. judged_only (sheet_in t) js q (w.passes e))
