-- `heidrunok::heidrunok_ask` meets its contract. Assumes nothing.
use Rattle.heidrunok.proofs.Fields.{ask_told}
use Rattle.heidrunok.proofs.heidrunok_ask.Goals as goal

pub returns-in-Ok : goal.returns-in-Ok
returns-in-Ok c =
    ask_told _ _ _ _ c.in-Ok.ensures c.named.ensures

pub returns-in-Err : goal.returns-in-Err
returns-in-Err c =
    ask_told _ _ _ _ c.in-Err.ensures c.named.ensures
