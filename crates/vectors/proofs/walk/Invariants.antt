use lib.ListN.{length}
use Prim.Native.Nat.{◌-◌}
use Rattle.vectors.proofs.walk.Given as goal

abbrev pub decreases-loop-c : goal.decreases-loop-c
decreases-loop-c g l = length l.log - l.c.at
