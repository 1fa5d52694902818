use Rattle.kinds.specs.Names.{most_places}
use Rattle.model.specs.Outlist.{out_one}
use Rattle.loops.specs.Loop.{each}
use lib.ListN.{length, replicate}
use mathlib.Core.Path.{◌≡◌}
use Rattle.locals.proofs.mark_outs.Given as goal

abbrev pub invariant-loop-f : goal.invariant-loop-f
invariant-loop-f l = (l.bits ≡ each l.f (out_one l.s l.t l.img) (replicate most_places 0)) × (length l.bits ≡ most_places)
