-- `locals::note_named` meets its contract. Assumes nothing.
use Rattle.locals.proofs.Owning.{slot_small}
use Rattle.image.proofs.Within.{has_word}
use Rattle.locals.proofs.note_named.Goals as goal

pub inlist_at-requires : goal.inlist_at-requires
inlist_at-requires c = has_word _ _ _ c.requires.slot_of.within _ (slot_small c.requires.slot_of)
