-- `image::release_field` meets its contract. Assumes nothing.
use Rattle.model.specs.Image.{refer, release}
use Rattle.image.proofs.release_field.Goals as goal

pub returns : goal.returns
unfolding refer release
returns c = c.refer_field.ensures
