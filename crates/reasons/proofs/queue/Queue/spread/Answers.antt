-- `reasons::queue::Queue::spread` meets its contract. Assumes nothing. After b turns the first b + 1 rows are whole.
use Rattle.reasons.proofs.Tables.{tables_few}
use native.Mathlib.Omega.{arith}
use Rattle.reasons.proofs.queue.Queue.spread.Goals as goal

pub overflow_add-b : goal.overflow_add-b
overflow_add-b c = let q = c.loop-b.self in omega (arith, tables_few q.tables)

pub loop-b-smaller : goal.loop-b-smaller
loop-b-smaller c = let q = c.loop-b.self in omega (arith, tables_few q.tables)
