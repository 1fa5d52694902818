-- `image::place_of` meets its contract. Assumes nothing.
use mathlib.Core.Path.{refl}
use Rattle.model.specs.Image.{place_of}
use Rattle.image.proofs.Within.{word_none}
use Rattle.image.proofs.place_of.Goals as goal

pub returns-then-w-eq0 : goal.returns-then-w-eq0
returns-then-w-eq0 c =
    rw c.if-w-eq0.true (word_none _)

pub returns : goal.returns
unfolding place_of
returns c =
    refl
