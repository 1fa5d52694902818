-- `verdicts::judge_outlist` meets its contract. Assumes nothing.
use Rattle.verdicts.proofs.Checks.{passes, stops}
use Rattle.model.specs.Judge.{judge_outlist}
use native.Mathlib.Omega.{arith}
use mathlib.Core.Path.{refl}
use borrow.Author.Tests.{lt-ltb, le-ltb}
use Rattle.verdicts.proofs.judge_outlist.Goals as goal

pub returns-then-p-t : goal.returns-then-p-t
unfolding judge_outlist
returns-then-p-t c =
    stops _ (omega (arith, le-ltb)) c.refuse.ensures

pub returns : goal.returns
unfolding judge_outlist
returns c =
    passes _ _ (omega (arith, lt-ltb)) refl
