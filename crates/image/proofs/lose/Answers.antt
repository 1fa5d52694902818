-- `image::lose` meets its contract. Assumes nothing.
use Rattle.image.proofs.Counts.{lost}
use borrow.Author.Rules.{rules}
use Rattle.image.proofs.lose.Goals as goal

pub returns : goal.returns
returns c = let e = c.recount.ensures in lost _ _ _ _ _ (record { elsewhere = e.elsewhere; changed = λ a. search rules; alone = e.alone })
