-- `locals::settle` meets its contract. Assumes nothing.
use Rattle.locals.proofs.Freeing.{settle_noted, settle_lost}
use Rattle.locals.proofs.settle.Goals as goal

pub returns-then-marks-j-eq1 : goal.returns-then-marks-j-eq1
returns-then-marks-j-eq1 c = (settle_noted _ _ _ _ c.if-marks-j-eq1.true, c.requires.within)

pub returns : goal.returns
returns c = let e = c.clear.ensures in (settle_lost _ _ _ _ c.if-marks-j-eq1.false _ e.0, e.1)
