-- `heidrunok::operation` meets its contract. Assumes nothing.
use Rattle.heidrunok.specs.Face.{operation_of, operation_by}
use borrow.Author.Tests.{ne_eqb}
use Rattle.heidrunok.proofs.operation.Goals as goal

pub returns-in-1 : goal.returns-in-1
unfolding operation_of operation_by
returns-in-1 c =
    rw (c.in-1.is, c.named.ensures)

pub returns-in-2 : goal.returns-in-2
unfolding operation_of operation_by
returns-in-2 c =
    rw (c.in-2.is, c.named-in-2.ensures, c.named-in-2-2.ensures)

pub returns-in-3 : goal.returns-in-3
unfolding operation_of operation_by
returns-in-3 c =
    rw (c.in-3.is, c.named-in-3.ensures)

pub returns-in-4 : goal.returns-in-4
unfolding operation_of operation_by
returns-in-4 c =
    rw (c.in-4.is, c.named-in-4.ensures)

pub returns-in-5 : goal.returns-in-5
unfolding operation_of operation_by
returns-in-5 c =
    rw (c.in-5.is, c.named-in-5.ensures)

pub returns-in-6 : goal.returns-in-6
unfolding operation_of operation_by
returns-in-6 c =
    rw c.in-6.is

pub returns-in_default : goal.returns-in_default
unfolding operation_of operation_by
returns-in_default c =
    let r = c.in_default.in_default-own.rest in
    simp (ne_eqb _ _ r.0.0.0.0.0.1, ne_eqb _ _ r.0.0.0.0.1, ne_eqb _ _ r.0.0.0.1, ne_eqb _ _ r.0.0.1, ne_eqb _ _ r.0.1, ne_eqb _ _ r.1)
