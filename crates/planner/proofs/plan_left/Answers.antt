-- The order of the refusals, test by test, and then what is found from the start.
use mathlib.Core.Path.{◌≡◌, refl}
use Prim.Native.Nat.{ℕ}
use native.Mathlib.Omega.{arith}
use Rattle.std.specs.Prelude.{List, Option}
use Rattle.std.proofs.lemmas.Result.{err_from_is_err_and}
use Rattle.frame.specs.Run.{State}
use Rattle.frame.specs.Afresh.{jobs_left}
use Rattle.frame.specs.Table.{need}
use Rattle.store.specs.declared.Store.{Store}
use Rattle.store.specs.declared.Head.{Head}
use Rattle.store.specs.Figures.{sheet_of}
use Rattle.store.specs.Sheet.{sheet_read}
use Rattle.run.specs.Run.{state_of}
use Rattle.refusal.specs.declared.Refusal.{Refusal}
use Rattle.refusal.proofs.Apart.{failed, passed}
use Rattle.table.specs.declared.axes.Frame.{Frame}
use Rattle.table.specs.Table.{head_axes}
use Rattle.need.specs.Axes.{axes_of, bare}
use Rattle.need.proofs.Axes.{axes, need_sheet, sheet_is}
use Rattle.checks.specs.Checks.{lack_of}
use Rattle.checks.proofs.Checks.{lack_none, fault_passed}
use Rattle.reply.specs.Reply.{Reply}
use Rattle.reply.specs.Answer.{Answers, found_from}
use Rattle.demands.proofs.Order.{answers_lack, answers_fault, answers_found, handed_away, handed_on}
use Rattle.planner.proofs.plan_left.Goals as goal

-- What is lacking is so of the sheet, whose need was worked out.
lacking : (head : Head) (store : Store) (a : State) (words bytes : ℕ) (f : Frame) {n left : ℕ} {lack : Option Refusal} → let s = sheet_of head store in
    head_axes f ≡ axes_of head → n ≡ need (bare f.head) → left ≡ jobs_left s a → lack_of n left words bytes ≡ lack → lack_of (need s) (jobs_left s a) words bytes ≡ lack
lacking head store a words bytes f e k l q = rw (need_sheet f store e k, l) at q

-- What is found for the sheet of the frame is found for the sheet that was read.
found_here : {h : Head} (f : Frame) (store : Store) → head_axes f ≡ axes_of h → (a : State) (words words' bytes bytes' : List ℕ) (q : Reply) →
    Answers (found_from (sheet_of f.head store) a) words words' bytes bytes' q → Answers (found_from (sheet_of h store) a) words words' bytes bytes' q
found_here f store e a words words' bytes bytes' q x = rw (sheet_is f {store = store} e refl) at x

pub returns-in_err-sheet : goal.returns-in_err-sheet
returns-in_err-sheet c =
    let p = err_from_is_err_and c.from_residual.result c.from_residual.ensures.1 in
    rw (p.1, p.2) (handed_away _ _ c.in_err-sheet.was)

pub returns-in_err-check_memory : goal.returns-in_err-check_memory
unfolding sheet_of
returns-in_err-check_memory c =
    let p = err_from_is_err_and c.from_residual-in_err-check_memory.result c.from_residual-in_err-check_memory.ensures.1 in
    let r = c.in_ok-sheet.sheet in
    let l = lacking r.head r.store.now (state_of c.args.start) _ _ c.frame_of-frame.result c.frame_of-frame.ensures c.need_of-need.ensures c.saturating_sub-left.ensures (failed c.check_memory.ensures c.in_err-check_memory.was) in
    rw (p.1, p.2) (handed_on _ r c.in_ok-sheet.was (answers_lack _ _ (sheet_read r) _ _ l))

pub returns-in_err-check_reading : goal.returns-in_err-check_reading
unfolding sheet_of
returns-in_err-check_reading c =
    let p = err_from_is_err_and c.from_residual-in_err-check_reading.result c.from_residual-in_err-check_reading.ensures.1 in
    let r = c.in_ok-sheet.sheet in
    let l = lacking r.head r.store.now (state_of c.args.start) _ _ c.frame_of-frame.result c.frame_of-frame.ensures c.need_of-need.ensures c.saturating_sub-left.ensures (passed c.check_memory.ensures c.in_ok-check_memory.was) in
    rw (p.1, p.2) (handed_on _ r c.in_ok-sheet.was (answers_fault _ _ (sheet_read r) _ l _ (failed (c.check_reading.ensures r.store.now) c.in_err-check_reading.was)))

pub solve-requires : goal.solve-requires
unfolding sheet_of
solve-requires c =
    let r = c.in_ok-sheet.sheet in
    let f = c.frame_of-frame.result in
    let e = c.frame_of-frame.ensures in
    let m = lack_none _ _ _ _ (lacking r.head r.store.now (state_of c.args.start) _ _ f e c.need_of-need.ensures c.saturating_sub-left.ensures (passed c.check_memory.ensures c.in_ok-check_memory.was)) in
    let t = fault_passed (sheet_read r) (state_of c.args.start) (passed (c.check_reading.ensures r.store.now) c.in_ok-check_reading.was) in
    rw (sheet_is f {store = r.store.now} e refl) (record {
      axes = axes f _ e r.ranges m.0;
      ready =
          record {
            readable = t;
            peak = omega (arith, c.requires);
            table = m.1;
            part = m.2;
          };
    })

pub returns : goal.returns
unfolding sheet_of
returns c =
    let r = c.in_ok-sheet.sheet in
    let f = c.frame_of-frame.result in
    let e = c.frame_of-frame.ensures in
    let l = lacking r.head r.store.now (state_of c.args.start) _ _ f e c.need_of-need.ensures c.saturating_sub-left.ensures (passed c.check_memory.ensures c.in_ok-check_memory.was) in
    let a = found_here f r.store.now e (state_of c.args.start) _ _ _ _ _ c.solve.ensures in
    handed_on _ r c.in_ok-sheet.was (answers_found _ _ (sheet_read r) _ l _ _ _ (passed (c.check_reading.ensures r.store.now) c.in_ok-check_reading.was) a)
