use Rattle.reasons.proofs.Queueing.{Part}
use Rattle.model.specs.Image.{anchor, anchors}
use Prim.Native.Nat.{◌*◌}
use Rattle.reasons.proofs.queue.Queue.note_anchors.Given as goal

abbrev pub invariant-loop-a : goal.invariant-loop-a
invariant-loop-a l = Part l.s (l.p * l.s) l.img (λ i. anchor i) anchors 0 0 l.self l.a
