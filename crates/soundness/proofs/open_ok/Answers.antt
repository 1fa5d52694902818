-- `soundness::open_ok` meets its contract. Assumes nothing.
use Rattle.soundness.proofs.Rows.{shaped_has}
use Rattle.model.specs.Sound.{open_ok}
use Rattle.model.specs.Image.{count, allowance}
use native.Mathlib.Omega.{arith}
use borrow.Author.Tests.{le-leb, lt-leb}
use Rattle.soundness.proofs.open_ok.Goals as goal

pub head_at-a-requires : goal.head_at-a-requires
head_at-a-requires c =
    shaped_has c.requires allowance (omega arith)

pub head_at-requires : goal.head_at-requires
head_at-requires c =
    shaped_has c.requires count (omega arith)

pub returns-then-a-p : goal.returns-then-a-p
unfolding open_ok
returns-then-a-p c =
    rw (← c.head_at-a.ensures, ← c.head_at.ensures, le-leb _ _ c.if-a-p.true)

pub returns-else-a-p : goal.returns-else-a-p
unfolding open_ok
returns-else-a-p c =
    rw (← c.head_at-a.ensures, lt-leb _ _ c.if-a-p.false)
