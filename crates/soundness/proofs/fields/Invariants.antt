use Rattle.loops.specs.Loop.{every}
use Rattle.model.specs.Image.{field}
use Rattle.model.specs.Sound.{ref_ok}
use Rattle.soundness.specs.Checks.{Tallied}
use mathlib.Core.Bool.{true}
use mathlib.Core.Path.{◌≡◌}
use Prim.Native.Nat.{◌+◌, ◌*◌}
use Rattle.soundness.proofs.fields.Given as goal

abbrev pub invariant-loop-k : goal.invariant-loop-k
invariant-loop-k l = record { tested : every l.k (λ i. ref_ok l.p l.s l.img (field l.j i)) ≡ true; tallied : Tallied l.s l.img (4 * l.j + l.k) l.counts }
