use Rattle.model.specs.Image.{flag, put}
use Rattle.collector.proofs.Sweeps.{Swept}
use Rattle.collector.proofs.unclean.Given as goal

abbrev pub invariant-loop-q : goal.invariant-loop-q
invariant-loop-q l = Swept l.p l.s (λ x q. put x (flag q) 0) l.initial.img l.img l.q
