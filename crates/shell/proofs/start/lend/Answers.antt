-- `shell::start::lend` meets its contract. Assumes nothing.
use Rattle.shell.proofs.Feeding.{lent_begun}
use borrow.Author.Rules.{rules}
use Rattle.shell.proofs.start.lend.Goals as goal

pub returns : goal.returns
returns g c =
    lent_begun _ _ _ _ _ c.asked_of.ensures (search rules) (search rules) c.lent.ensures
