-- `reasons::queue::Queue::new` meets its contract. Assumes nothing.
use Rattle.reasons.proofs.Tables.{tables_first}
use Rattle.reasons.proofs.Queueing.{levels_first}
use mathlib.Core.Path.{refl}
use Rattle.reasons.proofs.queue.Queue.new.Goals as goal

pub invariant_of-result : goal.invariant_of-result
invariant_of-result c = record { tables = tables_first }

pub returns : goal.returns
returns c = λ S places img few. levels_first _ few refl refl
