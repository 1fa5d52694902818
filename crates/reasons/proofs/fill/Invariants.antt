use Rattle.reasons.proofs.Climbing.{Filling}
use lib.ListN.{get_or}
use Rattle.reasons.proofs.fill.Given as goal

abbrev pub invariant-loop-h : goal.invariant-loop-h
invariant-loop-h l = Filling l.p l.s l.img l.queue l.t l.initial.words l.words l.j l.i

abbrev pub decreases-loop-h : goal.decreases-loop-h
decreases-loop-h l = get_or l.queue.rows l.j 0
