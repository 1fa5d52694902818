-- `locals::note_counted` meets its contract. Assumes nothing. After k turns the objects of the first k slots are noted that foreign fields name.
use Rattle.todo.proofs.Noting.{more_none, more_then}
use Rattle.loops.proofs.Turns.{each_none, each_more, each_done}
use mathlib.Core.Path.{◌∙◌}
use native.Mathlib.Omega.{arith}
use Rattle.locals.proofs.note_counted.Goals as goal

pub loop-k-init : goal.loop-k-init
loop-k-init c = (each_none _ _, more_none _)

pub note_named-requires-clause-notes_of : goal.note_named-requires-clause-notes_of
note_named-requires-clause-notes_of c =
    let m = c.loop-k.invariant.1 in (m.lo_same ∙ c.requires.notes_of.0, m.n_same ∙ c.requires.notes_of.1)

pub loop-k-preserved : goal.loop-k-preserved
loop-k-preserved c =
    let e = c.note_named.ensures in (e.0 ∙ each_more _ _ _ _ c.loop-k.invariant.0, more_then c.loop-k.invariant.1 e.1)

pub returns : goal.returns
returns c = (each_done _ _ _ _ _ (omega arith) (omega arith) c.loop-k.invariant.0, c.loop-k.invariant.1)
