use Rattle.loops.specs.Loop.{tally}
use Rattle.model.specs.Image.{get, state}
use lib.Dec.{eqb}
use mathlib.Core.Path.{◌≡◌}
use Rattle.collector.proofs.unmarked.Given as goal

abbrev pub invariant-loop-j : goal.invariant-loop-j
invariant-loop-j l = l.c ≡ tally l.j (λ i. eqb (get l.img (state i)) 1)
