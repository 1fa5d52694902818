use Rattle.model.specs.Image.{get, field}
use Rattle.model.specs.Acts.{mark_word}
use Rattle.collector.specs.Lists.{Listed, Grown}
use Rattle.collector.proofs.Sweeps.{Swept}
use Rattle.collector.proofs.visit.Given as goal

abbrev pub invariant-loop-k : goal.invariant-loop-k
invariant-loop-k l = Swept l.p l.s (λ x k. mark_word l.s x (get x (field l.j k))) l.initial.img l.img l.k × Listed l.s l.t l.img l.list × Grown l.initial.list l.list
