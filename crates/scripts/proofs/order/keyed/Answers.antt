-- `scripts::order::keyed` meets its contract: an arm for each row of the table. Assumes nothing.
-- An arm a keyword, by the table of orders.
use mathlib.Core.Path.{refl, sym}
use mathlib.Core.List.{[]}
use Rattle.lines.specs.Words.{is_in}
use Rattle.lines.proofs.Matches.{singly, in_arms}
use Rattle.lines.proofs.Parts.{keys, row_none}
use Rattle.scripts.specs.declared.order.Order.TheVariants.{What}
use Rattle.scripts.specs.Table.{rows}
use Rattle.scripts.specs.Orders.{keyed}
use Rattle.scripts.proofs.order.keyed.Goals as goal

pub returns-in_default : goal.returns-in_default
unfolding keyed keys rows is_in
returns-in_default c =
    let k = c.args.k in
    sym (row_none (λ r. r.reads k.a k.b k.c k.d k.e) What rows k.word (in_arms (singly [] (keys rows)) (keys rows) k.word refl c.in_default.in_default-own.rest))
