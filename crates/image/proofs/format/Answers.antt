-- `image::format` meets its contract. Assumes nothing.
use Rattle.image.proofs.Formats.{formatted}
use Rattle.model.specs.Image.{length_of, size}
use lib.ListN.{length-set}
use native.Mathlib.Omega.{arith}
use Rattle.image.proofs.format.Goals as goal

pub bounds-img-0 : goal.bounds-img-0
unfolding length_of size
bounds-img-0 c =
    omega (arith, c.clear.auto.img, c.requires)

pub bounds-img-1 : goal.bounds-img-1
unfolding length_of size
bounds-img-1 c =
    simp length-set (omega (arith, c.clear.auto.img, c.requires))

pub returns : goal.returns
returns c =
    rw c.clear.ensures (formatted c.args.p c.args.s c.args.img.now c.requires)
