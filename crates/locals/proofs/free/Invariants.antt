use Rattle.image.specs.Within.{Within}
use Rattle.locals.specs.Slots.{settle_of}
use Rattle.model.specs.Image.{Image}
use Rattle.model.specs.Questions.{Bits}
use Rattle.loops.specs.Loop.{each}
use mathlib.Core.Path.{◌≡◌}
use Prim.Native.Nat.{ℕ, ◌+◌, ◌*◌}
use Rattle.locals.proofs.free.Given as goal

abbrev pub settled : ℕ → ℕ → Bits → Image → ℕ → Image
settled s t marks x i = settle_of s marks x (t * s + i)

abbrev pub invariant-loop-k : goal.invariant-loop-k
invariant-loop-k l = (l.img ≡ each l.k (settled l.s l.t l.marks) l.initial.img) × Within l.p l.s l.img
