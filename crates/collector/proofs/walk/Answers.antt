-- `collector::walk` meets its contract. Assumes nothing. Of the list's objects the first `at` are visited (`Walking`); it is never longer than a partition.
use Rattle.collector.proofs.Walking.{walking_first, walking_within, next_in, walking_next, walking_end}
use Rattle.collector.proofs.walk.Goals as goal

pub loop-j-init : goal.loop-j-init
loop-j-init c =
    walking_first c.requires.within c.requires.t_lt_p c.list_marked.ensures

pub visit-requires-clause-t_lt_p : goal.visit-requires-clause-t_lt_p
visit-requires-clause-t_lt_p c =
    (c.requires.t_lt_p, next_in c.loop-j.invariant c.in-Some.ensures)

pub loop-j-preserved : goal.loop-j-preserved
loop-j-preserved c =
    walking_next c.loop-j.invariant c.in-Some.ensures c.visit.ensures

pub returns : goal.returns
returns c =
    let g = c.loop-j.invariant in (walking_end g c.in_default.ensures, walking_within g)
