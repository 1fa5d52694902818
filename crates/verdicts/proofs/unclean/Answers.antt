-- `verdicts::unclean` meets its contract. Assumes nothing.
use mathlib.Core.Path.{refl}
use lib.Dec.{eqb}
use Rattle.std.proofs.Common.{rules, tests}
use Rattle.std.proofs.lemmas.Iterator.{serves_from_Range}
use Rattle.loops.proofs.Ranges.{find_range}
use Rattle.model.specs.Image.{flag, get}
use Rattle.image.proofs.Within.{has_word}
use Rattle.verdicts.proofs.Searches.{unclean_found}
use Rattle.verdicts.proofs.unclean.Goals as goal

pub find-requires-clause-callable : goal.find-requires-clause-callable
find-requires-clause-callable c =
    let most = c.requires.limits.partitions_most in
    serves_from_Range (λ x q k. search rules) (λ x a b. search (rules, has_word))

pub returns : goal.returns
returns c =
    let m = find_range c.args.p (λ q. eqb (get c.args.img.now (flag q)) 0) _ _ c.find.result c.find.ensures.ran refl (λ x b q k. search (rules, tests)) in
    let both = unclean_found c.args.p c.args.img.now c.find.result m in
    record { none = both.0; lowest = both.1 }
