-- `desk::deed::past` meets its contract. Assumes nothing.
use Rattle.desk.proofs.deed.past.Goals as goal

pub returns-in-Log : goal.returns-in-Log
returns-in-Log c =
    rw c.in-Log.is
