use Rattle.model.specs.Image.{field, release}
use Rattle.collector.proofs.Sweeps.{Swept}
use Rattle.collector.proofs.clear.Given as goal

abbrev pub invariant-loop-k : goal.invariant-loop-k
invariant-loop-k l = Swept l.p l.s (λ x i. release l.s x (field l.j i)) l.initial.img l.img l.k
