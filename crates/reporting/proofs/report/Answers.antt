-- `reporting::report` meets its contract. Assumes nothing.
use Rattle.reporting.proofs.Reporting.{reported_full, reported_done}
use Rattle.reporting.proofs.report.Goals as goal

pub returns-then-out-lt-ROOM : goal.returns-then-out-lt-ROOM
returns-then-out-lt-ROOM c =
    reported_full _ _ c.if-out-lt-ROOM.true

pub returns : goal.returns
returns c =
    reported_done _ _ _ _ c.if-out-lt-ROOM.false c.put_report.ensures
