-- `heidrunok::heidrunok_recover` meets its contract. Assumes nothing.
use Rattle.std.specs.Prelude.{Err, Ok}
use Rattle.heidrunok.proofs.Faces.{recover_told}
use Rattle.heidrunok.proofs.heidrunok_recover.Goals as goal

pub returns-in-Ok : goal.returns-in-Ok
returns-in-Ok c =
    recover_told _ _ _ _ _ _ (Ok _) _ c.tell.ensures c.in-Ok.is c.recover.ensures

pub returns-in-Err : goal.returns-in-Err
returns-in-Err c =
    recover_told _ _ _ _ _ _ (Err _) _ c.tell-in-Err.ensures c.in-Err.is c.recover.ensures
