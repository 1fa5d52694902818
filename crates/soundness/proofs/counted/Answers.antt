-- `soundness::counted` meets its contract. Assumes nothing. Each count is what was tallied (count_is).
use Rattle.std.proofs.Common.{rules, tests}
use Rattle.std.proofs.lemmas.Iterator.{serves_from_Range}
use Rattle.loops.proofs.Ranges.{all_range}
use Rattle.soundness.proofs.Rows.{shaped_has}
use mathlib.Core.Path.{refl}
use Prim.Native.Nat.{◌*◌, ◌≤◌}
use lib.Dec.{eqb}
use lib.ListN.{get_or}
use mathlib.Core.Path.{ap, ◌∙◌}
use Rattle.kinds.specs.Names.{most_places}
use Rattle.loops.proofs.Loops.{every_same}
use Rattle.model.specs.Image.{inlist, get}
use Rattle.model.specs.Sound.{count_ok}
use Rattle.soundness.proofs.Tallying.{places, count_is}
use Rattle.soundness.proofs.counted.Goals as goal

pub all-requires-clause-callable : goal.all-requires-clause-callable
all-requires-clause-callable c =
    let few : c.args.p * c.args.s ≤ most_places = places c.requires.shaped in
    serves_from_Range (λ x q k. search rules) (λ x a b. search (rules, shaped_has))

pub returns : goal.returns
unfolding count_ok
returns c =
    let a = c.args in
    all_range (a.p * a.s) (λ j. eqb (get a.img.now (inlist j)) (get_or a.counts.now j 0)) _ _ _ c.all.ensures.ran refl (λ x b q k. search (rules, tests))
    ∙ every_same (a.p * a.s) _ _ (λ j l. ap (λ n. eqb (get a.img.now (inlist j)) n) (count_is c.requires.shaped c.requires.tallied j l))
