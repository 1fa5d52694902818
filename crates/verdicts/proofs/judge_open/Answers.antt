-- `verdicts::judge_open` meets its contract. Assumes nothing.
use Rattle.loops.proofs.Tests.{eq_not, ne_not, told_true, told_false}
use Rattle.verdicts.proofs.Checks.{passes, stops}
use Rattle.model.specs.Judge.{judge}
use Rattle.model.specs.Image.{phase}
use Rattle.image.proofs.Within.{has_word}
use native.Mathlib.Omega.{arith}
use mathlib.Core.Path.{refl}
use Rattle.verdicts.proofs.judge_open.Goals as goal

pub head_at-requires : goal.head_at-requires
head_at-requires c =
    has_word _ _ _ c.requires phase (omega arith)

pub returns-then-head_at-eq1 : goal.returns-then-head_at-eq1
unfolding judge
returns-then-head_at-eq1 c =
    stops _ (omega (arith, eq_not)) c.refuse.ensures

pub returns-then-not-r : goal.returns-then-not-r
unfolding judge
returns-then-not-r c =
    passes _ _ (omega (arith, ne_not)) (stops _ (told_false c.rooted-r.ensures c.if-not-r.true) c.refuse-then-not-r.ensures)

pub returns : goal.returns
unfolding judge
returns c =
    passes _ _ (omega (arith, ne_not)) (passes _ _ (told_true c.rooted-r.ensures c.if-not-r.false) refl)
