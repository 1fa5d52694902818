use Rattle.todo.specs.More.{More}
use Rattle.locals.specs.Slots.{named_one}
use Rattle.loops.specs.Loop.{each}
use mathlib.Core.Path.{◌≡◌}
use Rattle.locals.proofs.note_counted.Given as goal

abbrev pub invariant-loop-k : goal.invariant-loop-k
invariant-loop-k l = (l.notes.marks ≡ each l.k (named_one l.s l.t l.img) l.initial.notes.marks) × More l.initial.notes l.notes
