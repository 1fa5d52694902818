-- `image::judge_format` meets its contract. Assumes nothing.
use mathlib.Core.Path.{◌∙◌}
use Rattle.loops.proofs.Tests.{told_true, told_false, clash}
use Rattle.model.proofs.Soundness.{limits_true, limits_back}
use Rattle.image.proofs.Formats.{format_so, format_not}
use Rattle.image.proofs.judge_format.Goals as goal

pub returns-then-not-in_limits : goal.returns-then-not-in_limits
returns-then-not-in_limits c =
    c.refuse.ensures ∙ format_not _ _ _ (λ l e. clash (limits_back _ _ l) (told_false c.in_limits.ensures c.if-not-in_limits.true))

pub size-requires : goal.size-requires
size-requires c =
    limits_true _ _ (told_true c.in_limits.ensures c.if-not-in_limits.false)

pub returns-then-len-size : goal.returns-then-len-size
returns-then-len-size c =
    c.refuse-then-len-size.ensures ∙ format_not _ _ _ (λ l e. c.if-len-size.true (rw c.size.ensures e))

pub returns : goal.returns
returns c =
    format_so _ _ _ (limits_true _ _ (told_true c.in_limits.ensures c.if-not-in_limits.false)) (rw c.size.ensures at c.if-len-size.false)
