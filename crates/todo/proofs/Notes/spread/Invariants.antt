use Rattle.kinds.specs.Names.{most_places}
use Rattle.todo.specs.More.{More}
use Rattle.todo.proofs.Leading.{Spreading}
use Prim.Native.Nat.{◌-◌}
use Rattle.todo.proofs.Notes.spread.Given as goal

abbrev pub invariant-loop-at : goal.invariant-loop-at
invariant-loop-at l = ∥ Spreading l.s l.img l.initial.self l.self l.at ∥₁ × More l.initial.self l.self

abbrev pub decreases-loop-at : goal.decreases-loop-at
decreases-loop-at l = most_places - l.at
