-- `soundness::flag_ok` meets its contract. Assumes nothing.
use Rattle.model.specs.Sound.{flag_ok}
use borrow.Author.Tests.{lt-ltb, le-ltb, le-leb, lt-leb}
use Rattle.soundness.proofs.flag_ok.Goals as goal

pub returns-then-i-p : goal.returns-then-i-p
unfolding flag_ok
returns-then-i-p c =
    rw (← c.flag_at-x.ensures, le-leb _ _ c.if-x-le1.true, lt-ltb _ _ c.if-i-p.true)

pub returns-else-i-p : goal.returns-else-i-p
unfolding flag_ok
returns-else-i-p c =
    rw (← c.flag_at-x.ensures, le-leb _ _ c.if-x-le1.true, le-ltb _ _ c.if-i-p.false)

pub returns-else-x-le1 : goal.returns-else-x-le1
unfolding flag_ok
returns-else-x-le1 c =
    rw (← c.flag_at-x.ensures, lt-leb _ _ c.if-x-le1.false)
