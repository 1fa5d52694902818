-- `reasons::name_at` meets its contract. Assumes nothing.
use mathlib.Core.Path.{ap, ◌∙◌}
use Rattle.kinds.specs.Names.{word_of}
use Rattle.kinds.specs.declared.Name.{Name}
use Rattle.std.specs.Prelude.{Some}
use Rattle.model.specs.Outlist.{name_at}
use Rattle.reasons.proofs.name_at.Goals as goal

pub returns : goal.returns
unfolding name_at word_of
returns c =
    c.word_of.ensures ∙ ap (λ (n : Name). word_of (Some n)) c.named-n.ensures
