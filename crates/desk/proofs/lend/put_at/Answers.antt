-- `desk::lend::put_at` meets its contract. Assumes nothing.
use native.Mathlib.Omega.{arith}
use Rattle.desk.proofs.Putting.{put_none, put_over, put_done}
use Rattle.desk.proofs.lend.put_at.Goals as goal

pub returns-then-list-eq0 : goal.returns-then-list-eq0
returns-then-list-eq0 c =
    put_none _ _ _ c.if-list-eq0.true

pub returns-then-log-at : goal.returns-then-log-at
returns-then-log-at c =
    put_over _ _ _ (omega arith)

pub returns-then-log-at-2 : goal.returns-then-log-at-2
returns-then-log-at-2 c =
    put_over _ _ _ (omega arith)

pub returns : goal.returns
returns c = put_done _ _ _ c.if-list-eq0.false (omega arith) _ c.copy_from_slice.ensures.after
