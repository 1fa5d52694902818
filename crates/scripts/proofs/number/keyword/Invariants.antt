use Rattle.scripts.specs.Numbers.{coded}
use lib.ListN.{drop}
use mathlib.Core.Path.{◌≡◌}
use Rattle.scripts.proofs.number.keyword.Given as goal

abbrev pub invariant-loop-b : goal.invariant-loop-b
invariant-loop-b l = coded 0 l.word ≡ coded l.k (drop l.b-index l.word)
