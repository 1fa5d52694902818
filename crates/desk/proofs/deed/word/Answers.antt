-- `desk::deed::word` meets its contract. Assumes nothing.
use borrow.Author.Tests.{lt-ltb, le-ltb}
use Rattle.desk.specs.Desk.{put_word}
use Rattle.desk.proofs.deed.word.Goals as goal

pub returns-then-i-img : goal.returns-then-i-img
unfolding put_word
returns-then-i-img c =
    rw (lt-ltb _ _ c.if-i-img.true)

pub returns : goal.returns
unfolding put_word
returns c =
    rw (le-ltb _ _ c.if-i-img.false)
