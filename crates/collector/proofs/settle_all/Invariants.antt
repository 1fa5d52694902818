use Rattle.model.specs.Acts.{settle}
use Rattle.collector.proofs.Sweeps.{Swept}
use Rattle.collector.proofs.settle_all.Given as goal

abbrev pub invariant-loop-j : goal.invariant-loop-j
invariant-loop-j l = Swept l.p l.s (settle l.s) l.initial.img l.img l.j
