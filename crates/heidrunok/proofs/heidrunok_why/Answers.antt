-- `heidrunok::heidrunok_why` meets its contract. Assumes nothing.
use mathlib.Core.Path.{ap, ◌∙◌}
use Rattle.std.specs.Prelude.{Ok, Err}
use Rattle.holding.specs.Finding.{explained}
use Rattle.catalogue.specs.Answers.{Chained}
use Rattle.heidrunok.specs.Face.{told}
use Rattle.heidrunok.proofs.Fields.{why_told}
use Rattle.heidrunok.proofs.heidrunok_why.Goals as goal

pub returns-in-Ok : goal.returns-in-Ok
returns-in-Ok c =
    ap (λ (v : Chained). explained (told 0 0 v) c.why.new.words) (c.numbered.ensures c.in-Ok.h.references)
    ∙ why_told _ _ _ _ _ _ (Ok c.in-Ok.h) c.why.ensures c.named.ensures c.in-Ok.is

pub returns-in-Err : goal.returns-in-Err
returns-in-Err c =
    why_told _ _ _ _ _ _ (Err _) c.why.ensures c.named.ensures c.in-Err.is
