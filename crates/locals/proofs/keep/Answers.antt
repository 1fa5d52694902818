-- `locals::keep` meets its contract. Assumes nothing.
use Rattle.locals.proofs.Keeping.{all_kept}
use Rattle.locals.proofs.Owning.{row_small}
use native.Mathlib.Omega.{arith}
use Rattle.locals.proofs.keep.Goals as goal

pub returns : goal.returns
returns c = all_kept c.requires.within _ c.requires.t_lt_p (c.requires.notes_of.0, c.requires.notes_of.1, c.requires.none) c.note_anchors.ensures c.note_counted.ensures c.spread.ensures.0

pub spread-requires-clause-n_bound : goal.spread-requires-clause-n_bound
spread-requires-clause-n_bound c =
    let k = c.note_counted.ensures.1 in
    let a = c.note_anchors.ensures.1 in
    omega (arith, row_small c.requires.within _ c.requires.t_lt_p, k.lo_same, k.n_same, a.lo_same, a.n_same, c.requires.notes_of.0, c.requires.notes_of.1)
