-- `desk::deed::recover` meets its contract. Assumes nothing.
use borrow.Author.Tests.{lt-leb}
use mathlib.Core.Path.{sym}
use lib.Seq.{length-take-le}
use Rattle.desk.proofs.Putting.{recovered}
use Rattle.desk.specs.Desk.{recover_for}
use Rattle.desk.proofs.deed.recover.Goals as goal

pub returns-then-log-n : goal.returns-then-log-n
unfolding recover_for
returns-then-log-n c =
    rw (lt-leb _ _ c.if-log-n.true)

pub slice_bounds-recover-end : goal.slice_bounds-recover-end
slice_bounds-recover-end c =
    sym (length-take-le _ _ c.if-log-n.false)

pub returns : goal.returns
returns c =
    recovered _ _ _ c.if-log-n.false _ _ c.recover.ensures
