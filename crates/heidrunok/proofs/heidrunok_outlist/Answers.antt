-- `heidrunok::heidrunok_outlist` meets its contract. Assumes nothing.
use Rattle.heidrunok.proofs.Fields.{listing_told}
use Rattle.heidrunok.proofs.heidrunok_outlist.Goals as goal

pub returns-in-Ok : goal.returns-in-Ok
returns-in-Ok c =
    listing_told _ _ _ c.in-Ok.ensures

pub returns-in-Err : goal.returns-in-Err
returns-in-Err c =
    listing_told _ _ _ c.in-Err.ensures
