use Prim.Native.Nat.{◌-◌}
use Rattle.kinds.specs.Names.{most_slots}
use Rattle.collector.proofs.Walking.{Walking}
use Rattle.collector.proofs.walk.Given as goal

abbrev pub invariant-loop-j : goal.invariant-loop-j
invariant-loop-j l = Walking l.p l.s l.t l.initial.img l.img l.list l.at

abbrev pub decreases-loop-j : goal.decreases-loop-j
decreases-loop-j l = most_slots - l.at
