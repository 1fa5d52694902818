use Prim.Native.Nat.{◌≤◌, ◌-◌}
use mathlib.Core.Path.{◌≡◌}
use lib.ListN.{length}
use Rattle.shell.specs.Feed.{room}
use Rattle.shell.proofs.feed.Feed.next.Given as goal

abbrev pub invariant-loop-self : goal.invariant-loop-self
invariant-loop-self g l = (l.self.at ≤ l.self.have) × (l.self.at ≡ l.initial.self.at) × (room ≡ length l.script)

abbrev pub decreases-loop-self : goal.decreases-loop-self
decreases-loop-self g l = room - l.self.have
