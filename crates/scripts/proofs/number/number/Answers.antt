-- `scripts::number::number` meets its contract. Assumes nothing.
use Rattle.scripts.proofs.Numbers.{number_found, number_none}
use Rattle.scripts.proofs.number.number.Goals as goal

pub returns-in-End : goal.returns-in-End
returns-in-End c =
    number_found _ (λ i. (c.type_inv.word i).fits) _ _ _ c.scanned.ensures c.finish.ensures c.in-End.is

pub returns-in_default : goal.returns-in_default
returns-in_default c =
    number_none _ (λ i. (c.type_inv.word i).fits) _ _ c.scanned.ensures c.finish.ensures c.in_default.not-End
