use Rattle.reasons.proofs.Climbing.{Counting}
use lib.ListN.{get_or}
use Rattle.reasons.proofs.queue.Queue.depth.Given as goal

abbrev pub invariant-loop-h : goal.invariant-loop-h
invariant-loop-h l = Counting l.self l.j l.k l.at

abbrev pub decreases-loop-h : goal.decreases-loop-h
decreases-loop-h l = get_or l.self.rows l.at 0
