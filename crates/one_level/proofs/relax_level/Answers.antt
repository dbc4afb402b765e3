-- Span by span: the ways that are open to it make its words, and they are what the definition says of all moves.
use native.Mathlib.Omega.{arith}
use lib.ListN.{length-take, length-drop}
use Rattle.frame.proofs.Tabulate.{tabulated}
use Rattle.one_level.proofs.Spanning.{lows_later, span_more, open_least, open_leads}
use Rattle.one_level.proofs.relax_level.Goals as goal

pub take_span-requires : goal.take_span-requires
take_span-requires c =
    let a = c.requires in
    let l = c.loop-y.invariant in
    let o = c.find_ways-span.ensures in
    open_leads a.job.inside (lows_later l.low a.job.lows) o (simp (length-take, length-drop) (omega (arith, o.some, o.within, l.low, c.loop-y.auto.words)))

pub loop-y-preserved : goal.loop-y-preserved
loop-y-preserved c =
    let l = c.loop-y.invariant in
    let o = c.find_ways-span.ensures in
    record {
      low = omega (arith, o.some, l.low);
      most = o.within;
      done = span_more c.loop-y.words _ l.low o.some (omega (arith, o.within, c.loop-y.auto.words)) (omega arith) (omega (arith, l.low)) l.done
          (open_least c.args.table.now c.args.x l.low o) c.take_span.ensures;
    }

pub returns : goal.returns
returns c =
    tabulated _ _ _ (omega (arith, c.loop-y.auto.words)) (λ q l. c.loop-y.invariant.done q (omega (arith, c.loop-y-test.false, c.loop-y.invariant.low)))
