use lib.ListN.{length}
use Prim.Native.Nat.{◌-◌}
use Rattle.desk.proofs.Listing.{Going}
use Rattle.desk.proofs.lend.listed.Given as goal

abbrev pub invariant-loop-v : goal.invariant-loop-v
invariant-loop-v l = Going (length l.initial.list) l.line l.from l.list l.n l.i

abbrev pub decreases-loop-v : goal.decreases-loop-v
decreases-loop-v l = length l.list - l.n
