use mathlib.Core.Path.{◌≡◌}
use mathlib.Core.List.{map}
use lib.ListN.{length, take}
use Rattle.heidrunok.specs.Face.{operation_of}
use Rattle.heidrunok.proofs.heidrunok_commit.Given as goal

abbrev pub invariant-loop-i : goal.invariant-loop-i
invariant-loop-i l = (length l.ops ≡ 33) × (take l.i l.ops ≡ take l.i (map operation_of l.words))
