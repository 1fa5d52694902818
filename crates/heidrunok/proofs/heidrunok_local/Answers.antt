-- `heidrunok::heidrunok_local` meets its contract. Assumes nothing.
use mathlib.Core.Path.{sym, ap, ◌∙◌}
use Rattle.catalogue.specs.Answers.{said_freeing}
use Rattle.heidrunok.proofs.Faces.{seen_of, yield_told}
use Rattle.heidrunok.proofs.heidrunok_local.Goals as goal

pub returns-in-Ok : goal.returns-in-Ok
returns-in-Ok c =
    seen_of said_freeing _ _ _ _ _ c.local.ensures (yield_told _ _ _ _ _ c.tell.ensures ∙ ap said_freeing (sym c.in-Ok.is))

pub returns-in-Err : goal.returns-in-Err
returns-in-Err c =
    seen_of said_freeing _ _ _ _ _ c.local.ensures (yield_told _ _ _ _ _ c.tell-in-Err.ensures ∙ ap said_freeing (sym c.in-Err.is))
