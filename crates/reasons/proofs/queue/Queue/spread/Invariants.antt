use Rattle.reasons.specs.Queue.{Levels}
use Rattle.kinds.specs.Names.{most_places}
use Prim.Native.Nat.{◌+◌, ◌*◌, ◌-◌, ◌≤◌}
use Rattle.reasons.proofs.queue.Queue.spread.Given as goal

abbrev pub invariant-loop-b : goal.invariant-loop-b
invariant-loop-b l = (l.b ≤ l.self.length) × Levels l.s (l.p * l.s) l.img l.self (l.b + 1) l.self.length

abbrev pub decreases-loop-b : goal.decreases-loop-b
decreases-loop-b l = most_places - l.b
