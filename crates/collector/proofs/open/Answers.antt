-- `collector::open` meets its contract. Assumes nothing. What its calls come to, one after the other, is `opens`.
use Rattle.model.specs.Image.{phase}
use Rattle.collector.proofs.Bounds.{with_put}
use native.Mathlib.Omega.{arith}
use Rattle.collector.proofs.open.Goals as goal

pub unclean-requires : goal.unclean-requires
unclean-requires c =
    with_put c.requires phase 1 (omega arith) c.put_head.ensures
