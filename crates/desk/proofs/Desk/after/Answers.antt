-- `desk::Desk::after` meets its contract. Assumes nothing.
use Rattle.desk.specs.Desk.{after_deed}
use Rattle.desk.proofs.Desk.after.Goals as goal

pub returns-then-is_commit : goal.returns-then-is_commit
unfolding after_deed
returns-then-is_commit c =
    rw (← c.is_commit.ensures, c.if-is_commit.true)

pub returns : goal.returns
unfolding after_deed
returns c =
    rw (← c.is_commit.ensures, c.if-is_commit.false)
