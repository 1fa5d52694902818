-- `desk::lend::lend_bytes` meets its contract. Assumes nothing.
use mathlib.Core.Path.{sym}
use lib.Seq.{length-take-le}
use Rattle.desk.proofs.Putting.{lend_not, lend_done}
use Rattle.desk.proofs.lend.lend_bytes.Goals as goal

pub returns-then-log-n : goal.returns-then-log-n
returns-then-log-n c =
    rw c.says.ensures (lend_not _ _ _ _ _ c.if-log-n.true)

pub slice_bounds-dot-end-2 : goal.slice_bounds-dot-end-2
slice_bounds-dot-end-2 c =
    sym (length-take-le _ _ c.if-log-n.false)

pub returns : goal.returns
returns c =
    rw c.says-2.ensures (lend_done _ _ _ _ _ c.if-log-n.false _ c.dot.ensures)
