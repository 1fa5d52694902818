-- `locals::free` meets its contract. Assumes nothing. After k turns the first k slots are settled.
use Rattle.loops.proofs.Turns.{each_none, each_more}
use mathlib.Core.Path.{◌∙◌}
use Rattle.locals.proofs.free.Invariants.{settled}
use Rattle.locals.proofs.free.Goals as goal

pub loop-k-init : goal.loop-k-init
loop-k-init c = (each_none _ _, c.requires.within)

pub loop-k-preserved : goal.loop-k-preserved
loop-k-preserved c =
    let e = c.settle.ensures in (e.0 ∙ each_more (settled _ _ _) _ _ _ c.loop-k.invariant.0, e.1)
