-- `desk::deed::seen` meets its contract. Assumes nothing.
use Rattle.desk.specs.Desk.{seen_for}
use Rattle.desk.proofs.deed.seen.Goals as goal

pub returns-then-past : goal.returns-then-past
unfolding seen_for
returns-then-past c =
    rw (← c.past.ensures, c.if-past.true)

pub returns : goal.returns
unfolding seen_for
returns c =
    rw (← c.past.ensures, c.if-past.false)
