use Rattle.reasons.proofs.Queueing.{Part}
use Rattle.model.specs.Image.{field}
use Prim.Native.Nat.{◌+◌, ◌*◌}
use Rattle.reasons.proofs.queue.Queue.note_fields.Given as goal

abbrev pub invariant-loop-k : goal.invariant-loop-k
invariant-loop-k l = Part l.s (l.p * l.s) l.img (λ i. field l.j i) 4 (l.b + 1) l.from l.self l.k
