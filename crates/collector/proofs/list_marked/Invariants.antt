use Prim.Native.Nat.{◌+◌, ◌*◌}
use Rattle.model.specs.Acts.{marked}
use Rattle.model.specs.Walk.{Todo}
use Rattle.collector.proofs.list_marked.Given as goal

abbrev pub invariant-loop-k : goal.invariant-loop-k
invariant-loop-k l = Todo marked (λ i. l.t * l.s + i) l.k l.img l.list.places l.list.number
