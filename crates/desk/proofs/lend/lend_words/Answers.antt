-- `desk::lend::lend_words` meets its contract. Assumes nothing.
use mathlib.Core.Path.{sym}
use lib.Seq.{length-take-le}
use Rattle.desk.proofs.Putting.{lend_not, lend_done}
use Rattle.desk.proofs.lend.lend_words.Goals as goal

pub returns-then-img-n : goal.returns-then-img-n
returns-then-img-n c =
    rw c.says.ensures (lend_not _ _ _ _ _ c.if-img-n.true)

pub slice_bounds-clear-end-2 : goal.slice_bounds-clear-end-2
slice_bounds-clear-end-2 c =
    sym (length-take-le _ _ c.if-img-n.false)

pub returns : goal.returns
returns c =
    rw c.says-2.ensures (lend_done _ _ _ _ _ c.if-img-n.false _ c.clear.ensures)
