-- `collector::unclean` meets its contract. Assumes nothing. After q turns the first q partitions are not clean.
use Rattle.model.specs.Image.{flag}
use Rattle.collector.proofs.Bounds.{with_put}
use Rattle.collector.proofs.Sweeps.{swept_more}
use Rattle.collector.proofs.unclean.Goals as goal

pub loop-q-preserved : goal.loop-q-preserved
loop-q-preserved c =
    let e = c.put_flag.ensures in swept_more c.loop-q.invariant (with_put c.loop-q.invariant.within (flag _) _ c.loop-q-test.true e) e
