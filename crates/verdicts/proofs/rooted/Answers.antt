-- `verdicts::rooted` meets its contract. Assumes nothing.
use mathlib.Core.Path.{refl}
use lib.Dec.{eqb}
use Rattle.std.proofs.Common.{rules, tests}
use Rattle.std.proofs.lemmas.Iterator.{serves_from_Range}
use Rattle.loops.proofs.Ranges.{any_range}
use Rattle.kinds.specs.Names.{roots}
use Rattle.model.specs.Image.{anchor, get}
use Rattle.model.specs.Judge.{rooted}
use Rattle.image.proofs.Within.{has_word}
use Rattle.verdicts.proofs.rooted.Goals as goal

pub any-requires-clause-callable : goal.any-requires-clause-callable
any-requires-clause-callable c =
    serves_from_Range (λ x q k. search rules) (λ x a b. search (rules, has_word))

pub returns : goal.returns
unfolding rooted
returns c =
    any_range roots (λ r. eqb (get c.args.img.now (anchor r)) 0) _ _ _ c.any.ensures.ran refl (λ x b q k. search (rules, tests))
