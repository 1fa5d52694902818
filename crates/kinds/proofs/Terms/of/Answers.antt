use mathlib.Core.Path.{sym, ap, ◌∙◌}
use borrow.Author.Tests.{ne_eqb}
use Rattle.kinds.specs.Editions.{terms}
use Rattle.kinds.proofs.Terms.of.Goals as goal

pub returns-in-1 : goal.returns-in-1
unfolding terms
returns-in-1 c = c.decides.ensures ∙ sym (ap terms c.in-1.is)

pub returns-in-2 : goal.returns-in-2
unfolding terms
returns-in-2 c = c.decides-in-2.ensures ∙ sym (ap terms c.in-2.is)

pub returns-in-3 : goal.returns-in-3
unfolding terms
returns-in-3 c = c.decides-in-3.ensures ∙ sym (ap terms c.in-3.is)

pub returns-in-4 : goal.returns-in-4
unfolding terms
returns-in-4 c = c.decides-in-4.ensures ∙ sym (ap terms c.in-4.is)

pub returns-in_default : goal.returns-in_default
unfolding terms
returns-in_default c =
    let e = c.args.edition in
    let none = c.in_default.in_default-own.rest in
    c.decides-in_default.ensures ∙ rw (ne_eqb e 1 none.0.0.0.1, ne_eqb e 2 none.0.0.1, ne_eqb e 3 none.0.1, ne_eqb e 4 none.1)
