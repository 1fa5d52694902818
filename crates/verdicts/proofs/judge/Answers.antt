-- `verdicts::judge` meets its contract. Assumes nothing.
use Rattle.verdicts.proofs.judge.Goals as goal

pub returns-in-Open : goal.returns-in-Open
returns-in-Open c =
    rw c.in-Open.is c.judge_open.ensures

pub returns-in-Trace : goal.returns-in-Trace
returns-in-Trace c =
    rw c.in-Trace.is c.judge_trace.ensures

pub returns-in-Close : goal.returns-in-Close
returns-in-Close c =
    rw c.in-Close.is c.judge_close.ensures

pub returns-in-Local : goal.returns-in-Local
returns-in-Local c =
    rw c.in-Local.is c.judge_local.ensures

pub returns-in-Hold : goal.returns-in-Hold
returns-in-Hold c =
    rw c.in-Hold.is c.judge_hold.ensures

pub returns-in-Drop : goal.returns-in-Drop
returns-in-Drop c =
    rw c.in-Drop.is (c.judge_drop.ensures _ _ _)
