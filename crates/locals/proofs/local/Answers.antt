-- `locals::local` meets its contract. Assumes nothing.
use Rattle.locals.proofs.Freeing.{freed, number}
use mathlib.Core.Path.{◌∙◌}
use Rattle.locals.proofs.local.Goals as goal

pub returns : goal.returns
returns c =
    let k = c.keep.ensures in (c.free.ensures ∙ freed _ _ _ _ _ k, c.lost-freed.ensures ∙ number _ _ _ _ _ k)
