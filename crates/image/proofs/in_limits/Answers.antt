-- `image::in_limits` meets its contract. Assumes nothing.
use Rattle.std.proofs.Common.{arith}
use Rattle.std.proofs.lemmas.Grind.{common_steps}
use Rattle.loops.proofs.Tests.{same_test}
use Rattle.model.proofs.Soundness.{limits_true, limits_back}
use Rattle.image.proofs.in_limits.Goals as goal

pub returns-then-contains : goal.returns-then-contains
returns-then-contains c =
    same_test _ _
    (λ e. limits_back _ _ (record { some_partition = grind (arith, common_steps); partitions_most = grind (arith, common_steps); some_slot = grind (arith, common_steps); slots_most = grind (arith, common_steps) }))
    (λ e. let l = limits_true _ _ e in grind (arith, common_steps))

pub returns-else-contains : goal.returns-else-contains
returns-else-contains c =
    same_test _ _ (λ e. grind (arith, common_steps)) (λ e. let l = limits_true _ _ e in grind (arith, common_steps))
