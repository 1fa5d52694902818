use Rattle.model.proofs.Naming.{Listed}
use Rattle.model.specs.Outlist.{name_one}
use Rattle.kinds.specs.Answers.{no_names}
use Rattle.loops.specs.Loop.{each}
use mathlib.Core.Path.{◌≡◌}
use Rattle.locals.proofs.gather.Given as goal

abbrev pub invariant-loop-i : goal.invariant-loop-i
invariant-loop-i l = (l.outlist ≡ each l.i (name_one l.s l.bits) no_names) × Listed l.s l.bits l.i l.outlist
