-- `desk::deed_on` meets its contract. Assumes nothing.
use mathlib.Core.Path.{ap}
use lib.ListN.{drop}
use Rattle.catalogue.specs.Call.{Outcome}
use Rattle.desk.specs.declared.Response.{Response}
use Rattle.desk.specs.Desk.{rejoined}
use Rattle.desk.proofs.deed_on.Goals as goal

pub returns : goal.returns
returns c =
    let a = c.args in
    ap (λ (o : Outcome Response). rejoined o (drop a.d.words a.img.now) (drop a.d.bytes a.log.now)) (rw c.handed.ensures at c.deed.ensures)
