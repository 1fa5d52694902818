use Rattle.loops.specs.Loop.{every}
use Rattle.model.specs.Sound.{slot_ok}
use Rattle.soundness.specs.Checks.{Tallied}
use mathlib.Core.Bool.{true}
use mathlib.Core.Path.{◌≡◌}
use Prim.Native.Nat.{◌+◌, ◌*◌, ◌≤◌}
use Rattle.soundness.proofs.slots.Given as goal

abbrev pub invariant-loop-j : goal.invariant-loop-j
invariant-loop-j l =
    record {
      tested : every l.j (slot_ok l.p l.s l.img) ≡ true;
      tallied : Tallied l.s l.img (4 * l.j) l.counts;
      from_q : l.q * l.s ≤ l.j;
      near_q : l.j ≤ l.q * l.s + l.s;
    }
