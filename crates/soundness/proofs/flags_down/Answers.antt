-- `soundness::flags_down` meets its contract. Assumes nothing.
use Rattle.std.proofs.Common.{rules, tests}
use Rattle.std.proofs.lemmas.Iterator.{serves_from_Range}
use Rattle.loops.proofs.Ranges.{all_range}
use Rattle.soundness.proofs.Rows.{shaped_has}
use mathlib.Core.Path.{refl}
use Rattle.kinds.specs.Names.{most_partitions}
use Rattle.model.specs.Sound.{flag_down}
use Rattle.soundness.proofs.flags_down.Goals as goal

pub all-requires-clause-callable : goal.all-requires-clause-callable
all-requires-clause-callable c =
    serves_from_Range (λ x q k. search rules) (λ x a b. search (rules, shaped_has))

pub returns : goal.returns
unfolding flag_down
returns c =
    all_range most_partitions (flag_down c.args.img.now) _ _ _ c.all.ensures.ran refl (λ x b q k. search (rules, tests))
