use Rattle.todo.proofs.Noting.{anchors_noted}
use Rattle.todo.specs.More.{More}
use mathlib.Core.Path.{◌≡◌}
use Rattle.todo.proofs.Notes.note_anchors.Given as goal

abbrev pub invariant-loop-i : goal.invariant-loop-i
invariant-loop-i l =
    let a = l.initial.self in (l.self.marks ≡ anchors_noted l.s a.lo a.n l.img a.marks l.i) × More a l.self
