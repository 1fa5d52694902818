-- `todo::Notes::visit` meets its contract. Assumes nothing. Four times the same: a field is read, and what it names is noted.
use Rattle.todo.proofs.Noting.{fields_all}
use Rattle.image.proofs.Within.{has_word}
use Rattle.model.specs.Image.{field}
use native.Mathlib.Omega.{arith}
use Rattle.todo.proofs.Notes.visit.Goals as goal

pub field_at-requires : goal.field_at-requires
field_at-requires c = has_word _ _ _ c.requires.within (field c.args.j _) (c.requires.j_bound, omega arith)

pub field_at-requires-2 : goal.field_at-requires-2
field_at-requires-2 c = has_word _ _ _ c.requires.within (field c.args.j _) (c.requires.j_bound, omega arith)

pub field_at-requires-3 : goal.field_at-requires-3
field_at-requires-3 c = has_word _ _ _ c.requires.within (field c.args.j _) (c.requires.j_bound, omega arith)

pub field_at-requires-4 : goal.field_at-requires-4
field_at-requires-4 c = has_word _ _ _ c.requires.within (field c.args.j _) (c.requires.j_bound, omega arith)

pub returns : goal.returns
returns c =
    fields_all _ _ _ c.field_at.ensures c.field_at-2.ensures c.field_at-3.ensures c.field_at-4.ensures
    c.note.ensures c.note-2.ensures c.note-3.ensures c.note-4.ensures
