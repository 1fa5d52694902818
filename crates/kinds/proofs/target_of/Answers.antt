use Rattle.kinds.specs.Names.{target_of}
use borrow.Author.Tests.{eq-eqb, ne_eqb}
use Rattle.kinds.proofs.target_of.Goals as goal

pub returns-then-w-eq0 : goal.returns-then-w-eq0
unfolding target_of
returns-then-w-eq0 c = simp (eq-eqb _ _ c.if-w-eq0.true)

pub returns : goal.returns
unfolding target_of
returns c = simp (ne_eqb _ _ c.if-w-eq0.false)
