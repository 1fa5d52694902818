-- `verdicts::judge_drop` meets its contract. Assumes nothing.
use Rattle.verdicts.proofs.Checks.{passes, stops}
use Rattle.model.specs.Judge.{judge}
use native.Mathlib.Omega.{arith}
use mathlib.Core.Path.{refl}
use borrow.Author.Tests.{lt-ltb, le-ltb}
use Rattle.verdicts.proofs.judge_drop.Goals as goal

pub returns-then-h-ge-LIMIT : goal.returns-then-h-ge-LIMIT
unfolding judge
returns-then-h-ge-LIMIT c =
    λ P S x. stops _ (omega (arith, le-ltb)) c.refuse.ensures

pub returns : goal.returns
unfolding judge
returns c =
    λ P S x. passes _ _ (omega (arith, lt-ltb)) refl
