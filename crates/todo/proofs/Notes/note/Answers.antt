-- `todo::Notes::note` meets its contract. Assumes nothing.
use Rattle.std.proofs.lemmas.Grind.{common_steps}
use Rattle.todo.proofs.Noting.{noted_fit, more_none, note_nothing, word_out, word_in}
use mathlib.Core.Path.{◌∙◌}
use native.Mathlib.Omega.{arith}
use Rattle.todo.proofs.Notes.note.Goals as goal

pub returns-then-w-eq0 : goal.returns-then-w-eq0
returns-then-w-eq0 c =
    (note_nothing _ _ _ _ _ c.if-w-eq0.true, more_none _)

pub overflow_add-self : goal.overflow_add-self
overflow_add-self c = omega (arith, noted_fit c.args.self.now.noted)

pub returns-then-contains : goal.returns-then-contains
returns-then-contains c =
    (c.enter.ensures.0 ∙ word_in _ _ _ _ _ _ c.place_of-j.ensures c.if-w-eq0.false (grind (arith, common_steps)) (grind (arith, common_steps)), c.enter.ensures.1)

pub returns-else-contains : goal.returns-else-contains
returns-else-contains c =
    (word_out _ _ _ _ _ _ c.place_of-j.ensures (λ a b. grind (arith, common_steps)), more_none _)
