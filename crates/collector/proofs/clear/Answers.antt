-- `collector::clear` meets its contract. Assumes nothing. After k turns the first k fields are released.
use Rattle.model.specs.Image.{state, payload}
use Rattle.collector.proofs.Bounds.{with_put, with_release}
use Rattle.collector.proofs.Sweeps.{swept_first, swept_more}
use Rattle.collector.proofs.clear.Goals as goal

pub loop-k-init : goal.loop-k-init
loop-k-init c =
    swept_first (with_put (with_put c.requires.within (state _) _ tt c.put_state.ensures) (payload _) _ tt c.put_payload.ensures)

pub loop-k-preserved : goal.loop-k-preserved
loop-k-preserved c =
    let e = c.release_field.ensures in
    swept_more c.loop-k.invariant (with_release c.loop-k.invariant.within _ _ c.requires.j_bound c.loop-k-test.true e) e
