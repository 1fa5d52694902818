-- `locals::outlist` meets its contract. Assumes nothing.
use Rattle.locals.proofs.Outing.{gathers, out_listed}
use mathlib.Core.Path.{◌∙◌}
use Rattle.locals.proofs.outlist.Goals as goal

pub gather-requires : goal.gather-requires
gather-requires c =
    gathers c.requires.within _ _ c.mark_outs.ensures

pub returns : goal.returns
returns c =
    c.gather.ensures ∙ out_listed _ _ _ _ _ c.mark_outs.ensures
