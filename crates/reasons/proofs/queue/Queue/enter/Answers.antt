-- `reasons::queue::Queue::enter` meets its contract. Assumes nothing.
use native.Mathlib.Omega.{arith}
use mathlib.Core.Path.{◌≡◌}
use lib.ListN.{get_or}
use Rattle.reasons.proofs.Tables.{tables_room, tables_more}
use Rattle.reasons.proofs.queue.Queue.enter.Goals as goal

pub insert-requires : goal.insert-requires
insert-requires c =
    let a = c.args in
    let q = c.args.self.now in
    let new : get_or q.rows a.j 0 ≡ 0 = omega (arith, c.if-self-j-gt0.false) in
    (c.requires.0, c.requires.2, tables_room q.tables a.j a.u c.requires.0 new)

pub overflow_add-self-2 : goal.overflow_add-self-2
overflow_add-self-2 c =
    let a = c.args in
    let q = c.args.self.now in
    let new : get_or q.rows a.j 0 ≡ 0 = omega (arith, c.if-self-j-gt0.false) in
    omega (arith, tables_room q.tables a.j a.u c.requires.0 new)

pub invariant_of-self : goal.invariant_of-self
invariant_of-self c =
    let a = c.args in
    let q = c.args.self.now in
    let new : get_or q.rows a.j 0 ≡ 0 = omega (arith, c.if-self-j-gt0.false) in
    let o = c.insert.ensures.others in
    record { tables = rw (o.0, o.1) (tables_more q.tables a.j a.u c.requires.0 new c.insert.new.self.tables.long) }
