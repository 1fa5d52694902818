-- `soundness::partition_at` meets its contract. Assumes nothing.
use Rattle.soundness.proofs.Tallying.{part_small, next_part}
use Rattle.model.proofs.Places.{row_part}
use mathlib.Core.Path.{sym}
use native.Mathlib.Omega.{arith}
use Rattle.soundness.proofs.partition_at.Goals as goal

pub overflow_add-q : goal.overflow_add-q
overflow_add-q c =
    omega (arith, c.requires.2, c.requires.4, c.requires.1)

pub returns-then-j-q : goal.returns-then-j-q
returns-then-j-q c =
    (sym (row_part _ _ _ c.requires.0 c.requires.2 c.if-j-q.true), c.requires.2, c.if-j-q.true)

pub overflow_add-result : goal.overflow_add-result
overflow_add-result c =
    omega (arith, part_small _ c.args.q c.requires.0, c.requires.2, c.requires.4)

pub returns-else-j-q : goal.returns-else-j-q
returns-else-j-q c =
    next_part _ _ _ c.requires.0 c.if-j-q.false c.requires.3
