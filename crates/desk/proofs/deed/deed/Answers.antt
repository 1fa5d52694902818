-- `desk::deed::deed` meets its contract. Assumes nothing.
use mathlib.Core.Path.{ap}
use Rattle.catalogue.specs.Call.{outcome}
use Rattle.desk.specs.declared.Response.TheVariants.{Done, Closed, Freed}
use Rattle.desk.specs.Desk.{Put, answered}
use Rattle.desk.proofs.deed.deed.Goals as goal

pub returns-in-Word : goal.returns-in-Word
returns-in-Word c =
    rw c.in-Word.is (ap (λ (p : Put). outcome p.said p.list c.args.log.now) c.word.ensures)

pub returns-in-Format : goal.returns-in-Format
returns-in-Format c =
    rw c.in-Format.is (ap (answered Done) c.format.ensures)

pub returns-in-Commit : goal.returns-in-Commit
returns-in-Commit c =
    rw c.in-Commit.is (ap (answered Done) c.commit.ensures)

pub returns-in-Open : goal.returns-in-Open
returns-in-Open c =
    rw (c.in-Single.is, c.in-Open.is) (ap (answered Done) c.«open».ensures)

pub returns-in-Trace : goal.returns-in-Trace
returns-in-Trace c =
    rw (c.in-Single.is, c.in-Trace.is) (ap (answered Done) c.trace.ensures)

pub returns-in-Close : goal.returns-in-Close
returns-in-Close c =
    rw (c.in-Single.is, c.in-Close.is) (ap (answered Closed) c.close.ensures)

pub returns-in-Local : goal.returns-in-Local
returns-in-Local c =
    rw (c.in-Single.is, c.in-Local.is) (ap (answered Freed) c.local.ensures)

pub returns-in-Hold : goal.returns-in-Hold
returns-in-Hold c =
    rw (c.in-Single.is, c.in-Hold.is) (ap (answered Done) c.hold.ensures)

pub returns-in-Drop : goal.returns-in-Drop
returns-in-Drop c =
    rw (c.in-Single.is, c.in-Drop.is) (ap (answered Done) c.drop.ensures)

pub returns-in-Recover : goal.returns-in-Recover
returns-in-Recover c =
    rw c.in-Recover.is c.recover.ensures

pub returns-in-Look : goal.returns-in-Look
returns-in-Look c =
    rw (c.in-Look.is, c.seen.ensures)
