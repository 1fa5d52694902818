use Rattle.kinds.specs.Names.{word_of}
use Rattle.kinds.proofs.word_of.Goals as goal

pub returns-in-None : goal.returns-in-None
unfolding word_of
returns-in-None c = simp c.in-None.is

pub returns-in-Some : goal.returns-in-Some
unfolding word_of
returns-in-Some c = simp c.in-Some.is
