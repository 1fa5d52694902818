use Prim.Native.Nat.{◌-◌}
use Rattle.shell.proofs.Held.{Held}
use Rattle.shell.proofs.run.lines.Given as goal

abbrev pub invariant-loop-line : goal.invariant-loop-line
invariant-loop-line g l = Held l.d l.img l.log l.script l.feed l.number

abbrev pub decreases-loop-line : goal.decreases-loop-line
decreases-loop-line g l = 1048578 - l.feed.at
