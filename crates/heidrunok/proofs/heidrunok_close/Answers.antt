-- `heidrunok::heidrunok_close` meets its contract. Assumes nothing.
use mathlib.Core.Path.{sym, ap, ◌∙◌}
use Rattle.catalogue.specs.Answers.{said_closing}
use Rattle.heidrunok.proofs.Faces.{seen_of, totals_told}
use Rattle.heidrunok.proofs.heidrunok_close.Goals as goal

pub returns-in-Ok : goal.returns-in-Ok
returns-in-Ok c =
    seen_of said_closing _ _ _ _ _ c.close.ensures (totals_told _ _ _ _ _ _ c.tell.ensures ∙ ap said_closing (sym c.in-Ok.is))

pub returns-in-Err : goal.returns-in-Err
returns-in-Err c =
    seen_of said_closing _ _ _ _ _ c.close.ensures (totals_told _ _ _ _ _ _ c.tell-in-Err.ensures ∙ ap said_closing (sym c.in-Err.is))
