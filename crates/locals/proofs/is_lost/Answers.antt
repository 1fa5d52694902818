-- `locals::is_lost` meets its contract. Assumes nothing.
use Rattle.locals.proofs.Freeing.{lost_noted, lost_else}
use Rattle.locals.proofs.Owning.{slot_small}
use Rattle.image.proofs.Within.{has_word}
use Rattle.locals.proofs.is_lost.Goals as goal

pub state_at-requires : goal.state_at-requires
state_at-requires c = has_word _ _ _ c.requires.within _ (slot_small c.requires)

pub returns-then-marks-j-ne1 : goal.returns-then-marks-j-ne1
returns-then-marks-j-ne1 c = lost_else _ _ _ _ _ c.if-marks-j-ne1.true c.state_at.ensures

pub returns-else-marks-j-ne1 : goal.returns-else-marks-j-ne1
returns-else-marks-j-ne1 c = lost_noted _ _ _ _ _ c.if-marks-j-ne1.false
