-- `reasons::queue::Queue::depth` meets its contract. Assumes nothing. After k turns k references are counted.
use Rattle.reasons.proofs.Climbing.{counting_more, counting_end}
use Rattle.reasons.proofs.queue.Queue.depth.Goals as goal

pub loop-h-preserved : goal.loop-h-preserved
loop-h-preserved c = counting_more c.requires.climbs c.loop-h.invariant c.in-Some.ensures.some

pub returns : goal.returns
returns c = counting_end c.loop-h.invariant c.in_default.ensures.none
