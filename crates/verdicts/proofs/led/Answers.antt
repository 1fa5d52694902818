-- `verdicts::led` meets its contract. Assumes nothing.
use Prim.Native.Nat.{◌*◌}
use mathlib.Core.Bool.{true, cond}
use mathlib.Core.Path.{◌≡◌, refl}
use Rattle.std.proofs.Common.{rules, tests}
use Rattle.std.proofs.lemmas.Iterator.{serves_from_Range}
use Rattle.loops.specs.Loop.{every}
use Rattle.loops.proofs.Ranges.{all_range}
use Rattle.kinds.specs.Names.{fields}
use Rattle.model.specs.Image.{anchor, anchors, field, an_anchor}
use Rattle.model.specs.Acts.{marked}
use Rattle.model.specs.Judge.{leads_on, led}
use Rattle.image.proofs.Within.{has_word}
use Rattle.verdicts.proofs.Searches.{leads_in}
use Rattle.verdicts.proofs.led.Goals as goal
use Rattle.verdicts.proofs.led.Goals.{After-all}

pub all-requires-clause-callable : goal.all-requires-clause-callable
all-requires-clause-callable c =
    serves_from_Range (λ x q k. search rules) (λ x a b. search (rules, has_word, leads_in, an_anchor))

anchors_on : (c : After-all) → let a = c.args in c.all.result ≡ every anchors (λ k. leads_on a.s a.img.now (anchor k))
anchors_on c =
    let a = c.args in all_range anchors (λ k. leads_on a.s a.img.now (anchor k)) _ _ _ c.all.ensures.ran refl (λ x b q k. search (rules, tests))

pub returns-then-all : goal.returns-then-all
unfolding led
returns-then-all c =
    let a = c.args in
    rw (← anchors_on (goal.at.returns-then-all c).After-all, c.if-all.true)
    (all_range (a.p * a.s) (λ j. cond (marked a.img.now j) (every fields (λ k. leads_on a.s a.img.now (field j k))) true) _ _ _ c.all-then-all.ensures.ran refl (λ x b q k. search (rules, tests)))

pub returns-else-all : goal.returns-else-all
unfolding led
returns-else-all c =
    rw (← anchors_on (goal.at.returns-else-all c).After-all, c.if-all.false)
