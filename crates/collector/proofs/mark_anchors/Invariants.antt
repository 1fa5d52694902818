use Rattle.model.specs.Image.{anchor, get}
use Rattle.model.specs.Acts.{mark_word}
use Rattle.collector.proofs.Sweeps.{Swept}
use Rattle.collector.proofs.mark_anchors.Given as goal

abbrev pub invariant-loop-a : goal.invariant-loop-a
invariant-loop-a l = Swept l.p l.s (λ x a. mark_word l.s x (get x (anchor a))) l.initial.img l.img l.a
