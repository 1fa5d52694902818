-- `verdicts::judge_local` meets its contract. Assumes nothing.
use Rattle.loops.proofs.Tests.{told_true, told_false}
use Rattle.verdicts.proofs.Checks.{passes, stops}
use Rattle.model.specs.Judge.{judge}
use native.Mathlib.Omega.{arith}
use mathlib.Core.Path.{refl}
use borrow.Author.Tests.{lt-ltb, le-ltb}
use Rattle.verdicts.proofs.judge_local.Goals as goal

pub returns-then-p-t : goal.returns-then-p-t
unfolding judge
returns-then-p-t c =
    stops _ (omega (arith, le-ltb)) c.refuse.ensures

pub returns-then-not-r : goal.returns-then-not-r
unfolding judge
returns-then-not-r c =
    passes _ _ (omega (arith, lt-ltb)) (stops _ (told_false c.rooted-r.ensures c.if-not-r.true) c.refuse-then-not-r.ensures)

pub returns : goal.returns
unfolding judge
returns c =
    passes _ _ (omega (arith, lt-ltb)) (passes _ _ (told_true c.rooted-r.ensures c.if-not-r.false) refl)
