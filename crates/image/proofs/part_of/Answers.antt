-- `image::part_of` meets its contract. Assumes nothing.
use Rattle.image.proofs.Within.{part_none, part_word}
use Rattle.model.specs.Image.{part_of}
use native.Mathlib.Omega.{arith}
use Rattle.image.proofs.part_of.Goals as goal

pub returns-then-w-eq0 : goal.returns-then-w-eq0
returns-then-w-eq0 c =
    rw c.if-w-eq0.true (part_none _)

pub returns-then-t-s : goal.returns-then-t-s
returns-then-t-s c =
    part_word _ _ (omega arith)

pub returns : goal.returns
unfolding part_of
returns c =
    rw c.place_of-j.ensures
