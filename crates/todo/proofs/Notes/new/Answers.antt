-- `todo::Notes::new` meets its contract. Assumes nothing.
use Rattle.std.proofs.lemmas.Grind.{merely}
use Rattle.todo.proofs.Noting.{noted_none}
use Rattle.todo.proofs.Notes.new.Goals as goal

pub invariant_of-result : goal.invariant_of-result
invariant_of-result c = record { noted = merely (noted_none _ _ c.zeros.ensures c.zeros-2.ensures c.requires) }
