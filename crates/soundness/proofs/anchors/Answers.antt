-- `soundness::anchors` meets its contract. Assumes nothing.
use Rattle.std.proofs.Common.{rules, tests}
use Rattle.std.proofs.lemmas.Iterator.{serves_from_Range}
use Rattle.loops.proofs.Ranges.{all_range}
use Rattle.soundness.proofs.Rows.{shaped_has}
use mathlib.Core.Path.{refl}
use Rattle.model.specs.Image.{anchors}
use Rattle.model.specs.Sound.{anchor_ok}
use Rattle.soundness.proofs.anchors.Goals as goal

pub all-requires-clause-callable : goal.all-requires-clause-callable
all-requires-clause-callable c =
    serves_from_Range (λ x q k. search rules) (λ x a b. search (rules, shaped_has))

pub returns : goal.returns
unfolding anchor_ok
returns c =
    let a = c.args in all_range anchors (anchor_ok a.p a.s a.img.now) _ _ _ c.all.ensures.ran refl (λ x b q k. search (rules, tests))
