-- `collector::mark_anchors` meets its contract. Assumes nothing. After a turns what the first a anchors name is marked.
use Rattle.model.specs.Image.{anchor, an_anchor}
use Rattle.collector.proofs.Bounds.{with_mark}
use Rattle.collector.proofs.Sweeps.{swept_more}
use native.Mathlib.Omega.{arith}
use Rattle.collector.proofs.mark_anchors.Goals as goal

pub mark_word-requires-clause-w_bound : goal.mark_word-requires-clause-w_bound
mark_word-requires-clause-w_bound c =
    rw c.anchor_at-w.ensures (c.loop-a.invariant.within.refs (anchor c.loop-a.a) (an_anchor (omega arith)))

pub loop-a-preserved : goal.loop-a-preserved
loop-a-preserved c =
    let l = c.loop-a.invariant.within in
    let e = rw c.anchor_at-w.ensures at c.mark_word.ensures in
    swept_more c.loop-a.invariant (with_mark l _ (l.refs (anchor c.loop-a.a) (an_anchor (omega arith))) e) e
