use native.Mathlib.Omega.{arith}
use Rattle.reasons.proofs.Tables.{tables_few}
use Rattle.reasons.proofs.queue.Queue.before.Goals as goal

pub bounds-self-b : goal.bounds-self-b
bounds-self-b c = let q = c.args.self.now in omega (arith, tables_few q.tables, c.requires.climbs.upto c.args.j)
