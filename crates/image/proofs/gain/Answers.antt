-- `image::gain` meets its contract. Assumes nothing.
use Rattle.image.proofs.Counts.{gained}
use borrow.Author.Rules.{rules}
use Rattle.image.proofs.gain.Goals as goal

pub returns : goal.returns
returns c = let e = c.recount.ensures in gained _ _ _ _ _ (record { elsewhere = e.elsewhere; changed = λ a. search rules; alone = e.alone })
