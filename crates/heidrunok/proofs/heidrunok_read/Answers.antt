-- `heidrunok::heidrunok_read` meets its contract. Assumes nothing.
use Rattle.heidrunok.proofs.Fields.{field_named, read_told, read_refused}
use Rattle.heidrunok.proofs.heidrunok_read.Goals as goal

pub word-requires : goal.word-requires
word-requires c =
    field_named _ _ _ _ c.in-Ok.ensures

pub word-requires-in-Ok : goal.word-requires-in-Ok
word-requires-in-Ok c =
    field_named _ _ _ _ c.in-Ok.ensures

pub word-requires-in-Ok-2 : goal.word-requires-in-Ok-2
word-requires-in-Ok-2 c =
    field_named _ _ _ _ c.in-Ok.ensures

pub word-requires-in-Ok-3 : goal.word-requires-in-Ok-3
word-requires-in-Ok-3 c =
    field_named _ _ _ _ c.in-Ok.ensures

pub returns-in-Ok : goal.returns-in-Ok
returns-in-Ok c =
    read_told _ _ _ _ _ _ _ _ c.in-Ok.ensures c.named.ensures c.word.ensures c.word-in-Ok.ensures c.word-in-Ok-2.ensures c.word-in-Ok-3.ensures

pub returns-in-Err : goal.returns-in-Err
returns-in-Err c =
    read_refused _ _ _ _ c.in-Err.ensures c.named.ensures
