use Rattle.scripts.proofs.Commands.{Reading}
use Rattle.scripts.specs.Commands.{most_numbers}
use Prim.Native.Nat.{◌-◌}
use Rattle.scripts.proofs.command.numbers.Given as goal

abbrev pub invariant-loop-v : goal.invariant-loop-v
invariant-loop-v l = Reading l.line l.at l.word l.k l.i

abbrev pub decreases-loop-v : goal.decreases-loop-v
decreases-loop-v l = most_numbers - l.k.count
