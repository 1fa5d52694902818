use Rattle.reasons.proofs.Queueing.{Moving}
use mathlib.Core.Path.{◌≡◌}
use Rattle.reasons.proofs.queue.Queue.insert.Given as goal

abbrev pub invariant-loop-at : goal.invariant-loop-at
invariant-loop-at l =
    let was = l.initial.self in
    Moving was.list l.from was.length l.j l.self.list l.at × (l.self.rows ≡ was.rows) × (l.self.length ≡ was.length)

abbrev pub decreases-loop-at : goal.decreases-loop-at
decreases-loop-at l = l.at
