-- `verdicts::object_leads_on` meets its contract. Assumes nothing.
use mathlib.Core.Path.{refl}
use borrow.Author.Tests.{eq-eqb}
use Rattle.std.proofs.Common.{rules, tests}
use Rattle.std.proofs.lemmas.Iterator.{serves_from_Range}
use Rattle.loops.proofs.Ranges.{all_range}
use Rattle.kinds.specs.Names.{fields}
use Rattle.model.specs.Image.{state, field, a_field}
use Rattle.model.specs.Judge.{leads_on}
use Rattle.image.proofs.Within.{has_word}
use Rattle.verdicts.proofs.Searches.{leads_in}
use Rattle.verdicts.proofs.object_leads_on.Goals as goal

pub state_at-requires : goal.state_at-requires
state_at-requires c =
    has_word _ _ _ c.requires.within (state c.args.j) c.requires.j_bound

pub all-requires-clause-callable : goal.all-requires-clause-callable
all-requires-clause-callable c =
    serves_from_Range (λ x q k. search rules) (λ x a b. search (rules, has_word, leads_in, a_field))

pub returns-else-state_at-ne2 : goal.returns-else-state_at-ne2
returns-else-state_at-ne2 c =
    let e = all_range fields (λ k. leads_on c.args.s c.args.img.now (field c.args.j k)) _ _ c.all.result c.all.ensures.ran refl (λ x b q k. search (rules, tests)) in
    rw (← c.state_at.ensures, eq-eqb _ _ c.if-state_at-ne2.false) e
