-- A whole sheet, by the laws of `proofs/Sheet.antt`: its size, its V line, its H line, and the lines after it.
use mathlib.Core.Path.{◌∙◌}
use Rattle.std.proofs.Common.{of_calls}
use Rattle.sheet.proofs.Sheet.{turned, sheet_long, sheet_fault, sheet_on, head_fault, head_range, head_hot, head_on, figures_fault, figures_trailing, figures_read}
use Rattle.sheet.proofs.read_lines.Goals as goal

pub returns-then-s-gt-SIZE_MAX : goal.returns-then-s-gt-SIZE_MAX
returns-then-s-gt-SIZE_MAX c = sheet_long _ c.if-s-gt-SIZE_MAX.true

pub returns-in_err-version : goal.returns-in_err-version
returns-in_err-version c =
    turned _ _ _ c.from_residual.ensures ∙ sheet_fault _ c.if-s-gt-SIZE_MAX.false _ c.start.ensures _ (λ line said w. w.1) _ c.in_err-version.ensures

pub returns-in_err-head : goal.returns-in_err-head
returns-in_err-head c =
    turned _ _ _ c.from_residual-in_err-head.ensures ∙ head_fault c.in_ok-version.version _ _ (λ line said w. search of_calls) _ c.in_err-head.ensures
    ∙ sheet_on _ c.if-s-gt-SIZE_MAX.false _ c.start.ensures _ (λ line said w. w.1) _ _ c.in_ok-version.ensures

pub returns-then-head : goal.returns-then-head
returns-then-head c =
    head_hot c.in_ok-version.version _ _ (λ line said w. search of_calls) _ _ c.in_ok-head.ensures c.if-head.true
    ∙ sheet_on _ c.if-s-gt-SIZE_MAX.false _ c.start.ensures _ (λ line said w. w.1) _ _ c.in_ok-version.ensures

pub invariant_of-counts : goal.invariant_of-counts
invariant_of-counts c =
    let h = head_range c.in_ok-version.version _ _ (λ line said w. search of_calls) _ _ c.in_ok-head.ensures in
    record { few_jobs = h.jobs.1; few_levels = h.levels.1 }

pub returns-in_err-end : goal.returns-in_err-end
returns-in_err-end c =
    turned _ _ _ c.from_residual-in_err-end.ensures ∙ figures_fault c.in_ok-head.head _ _ _ c.requires _ c.in_err-end.ensures
    ∙ head_on c.in_ok-version.version _ _ (λ line said w. search of_calls) _ _ c.in_ok-head.ensures c.if-head.false
    ∙ sheet_on _ c.if-s-gt-SIZE_MAX.false _ c.start.ensures _ (λ line said w. w.1) _ _ c.in_ok-version.ensures

pub returns-then-not-is_empty : goal.returns-then-not-is_empty
returns-then-not-is_empty c =
    figures_trailing c.in_ok-head.head _ _ _ c.requires _ c.in_ok-end.ensures c.if-not-is_empty.ensures
    ∙ head_on c.in_ok-version.version _ _ (λ line said w. search of_calls) _ _ c.in_ok-head.ensures c.if-head.false
    ∙ sheet_on _ c.if-s-gt-SIZE_MAX.false _ c.start.ensures _ (λ line said w. w.1) _ _ c.in_ok-version.ensures

pub returns : goal.returns
returns c =
    figures_read c.in_ok-head.head _ _ _ c.requires _ c.in_ok-end.ensures c.if-not-is_empty.ensures
    ∙ head_on c.in_ok-version.version _ _ (λ line said w. search of_calls) _ _ c.in_ok-head.ensures c.if-head.false
    ∙ sheet_on _ c.if-s-gt-SIZE_MAX.false _ c.start.ensures _ (λ line said w. w.1) _ _ c.in_ok-version.ensures
