-- `image::anchor_place` meets its contract. Assumes nothing.
use mathlib.Core.Path.{sym}
use Rattle.model.proofs.Keys.{root_addr, handle_addr}
use borrow.Author.Rules.{rules}
use Rattle.image.proofs.anchor_place.Goals as goal

pub returns-then-a-lt-ROOTS : goal.returns-then-a-lt-ROOTS
returns-then-a-lt-ROOTS c =
    sym (root_addr _ (search rules))

pub returns : goal.returns
returns c =
    sym (handle_addr _ (search rules))
