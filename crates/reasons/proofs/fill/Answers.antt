-- `reasons::fill` meets its contract. Assumes nothing. Before each turn the words of the i references up from j are still to be written.
use Rattle.reasons.proofs.Climbing.{filling_some, filling_more, filling_end}
use Rattle.reasons.proofs.fill.Goals as goal

pub put_pair-requires-clause-i_nonzero : goal.put_pair-requires-clause-i_nonzero
put_pair-requires-clause-i_nonzero c = (filling_some c.loop-h.invariant c.requires.placed c.in-Some.ensures.some, c.loop-h.invariant.fit)

pub overflow_sub-i : goal.overflow_sub-i
overflow_sub-i c = filling_some c.loop-h.invariant c.requires.placed c.in-Some.ensures.some

pub loop-h-preserved : goal.loop-h-preserved
loop-h-preserved c = filling_more c.loop-h.invariant c.requires.placed c.in-Some.ensures.some _ c.put_pair.ensures

pub returns : goal.returns
returns c = filling_end c.loop-h.invariant c.in_default.ensures.none _ c.name_at.ensures
