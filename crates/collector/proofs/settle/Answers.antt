-- `collector::settle` meets its contract. Assumes nothing.
use Rattle.model.specs.Image.{state}
use Rattle.model.specs.Acts.{settle}
use Rattle.collector.proofs.Bounds.{with_put}
use borrow.Author.Rules.{rules}
use Rattle.collector.proofs.settle.Goals as goal

pub returns-in-2 : goal.returns-in-2
unfolding settle
returns-in-2 c =
    (search rules, with_put c.requires.within (state _) _ tt c.put_state.ensures)
