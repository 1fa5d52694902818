-- `collector::visit` meets its contract. Assumes nothing. After k turns what the first k fields name is marked, and listed if it is in t.
use Rattle.model.specs.Image.{field, a_field}
use Rattle.model.proofs.Walking.{longer_then}
use Rattle.collector.proofs.Bounds.{with_mark}
use Rattle.collector.proofs.Sweeps.{swept_more}
use Rattle.collector.proofs.visit.Goals as goal

pub note-requires-clause-t_lt_p : goal.note-requires-clause-t_lt_p
note-requires-clause-t_lt_p c =
    (c.requires.t_lt_p.0, rw c.field_at-w.ensures (c.loop-k.invariant.0.within.refs (field c.args.j c.loop-k.k) (a_field c.requires.t_lt_p.1 c.loop-k-test.true)))

pub loop-k-preserved : goal.loop-k-preserved
loop-k-preserved c =
    let i = c.loop-k.invariant in
    let w = i.0.within in
    let n = c.note.ensures in
    let e = rw c.field_at-w.ensures at n.0 in (
      swept_more i.0 (with_mark w _ (w.refs (field c.args.j c.loop-k.k) (a_field c.requires.t_lt_p.1 c.loop-k-test.true)) e) e,
      n.1,
      longer_then i.2 n.2,
    )
