-- `heidrunok::heidrunok_format` meets its contract. Assumes nothing.
use Rattle.heidrunok.proofs.Faces.{seen_of}
use Rattle.catalogue.specs.Answers.{said}
use Rattle.heidrunok.proofs.heidrunok_format.Goals as goal

pub returns : goal.returns
returns c =
    seen_of said _ _ _ _ _ c.format.ensures c.tell.ensures
