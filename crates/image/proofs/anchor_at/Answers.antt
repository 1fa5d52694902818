-- `image::anchor_at` meets its contract. Assumes nothing.
use native.Mathlib.Omega.{arith}
use Rattle.model.specs.Image.{Has, get}
use Rattle.model.proofs.Keys.{anchor_above}
use borrow.Author.Rules.{rules}
use Rattle.image.proofs.anchor_at.Goals as goal

pub anchor_place-at-requires : goal.anchor_place-at-requires
unfolding Has
anchor_place-at-requires c =
    omega (arith, anchor_above c.args.a, c.requires)

pub offset_bounds-img-at : goal.offset_bounds-img-at
unfolding Has
offset_bounds-img-at c =
    search rules

pub bounds-img-at : goal.bounds-img-at
unfolding Has
bounds-img-at c =
    search rules

pub returns : goal.returns
unfolding get
returns c =
    rw c.anchor_place-at.ensures
