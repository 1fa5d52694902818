-- `shell::run::lines` meets its contract. Each turn plays a line, and the next one starts after it. Assumes nothing.
use Rattle.shell.proofs.Held.{lent_next, held_next}
use mathlib.Core.Path.{refl}
use borrow.Author.Rules.{rules}
use Rattle.shell.proofs.run.lines.Goals as goal

pub told-requires : goal.told-requires
told-requires g c =
    lent_next _ _ _ _ _ _ c.loop-line.invariant _ _ _ _ _ _ c.step-turn.ensures (search rules) (search rules)

pub loop-line-preserved : goal.loop-line-preserved
loop-line-preserved g c =
    held_next _ _ _ _ _ _ c.loop-line.invariant _ _ _ _ _ _ c.step-turn.ensures (search rules) (search rules) _ _ (search rules) c.in-Some.ensures.1
