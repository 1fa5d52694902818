-- `todo::Notes::note_anchors` meets its contract. Assumes nothing. After i turns the first i roots are noted.
use Rattle.todo.proofs.Noting.{more_none, more_then, same_places, anchors_none, anchors_more, anchors_done}
use Rattle.image.proofs.Within.{has_word}
use Rattle.model.specs.Image.{anchor}
use mathlib.Core.Path.{◌∙◌}
use native.Mathlib.Omega.{arith}
use Rattle.todo.proofs.Notes.note_anchors.Goals as goal

pub loop-i-init : goal.loop-i-init
loop-i-init c = (anchors_none _ _ _ _ _, more_none _)

pub anchor_at-requires : goal.anchor_at-requires
anchor_at-requires c = has_word _ _ _ c.requires (anchor c.loop-i.i) (omega arith)

pub loop-i-preserved : goal.loop-i-preserved
loop-i-preserved c =
    let inv = c.loop-i.invariant in
    (anchors_more _ _ _ _ _ _ _ c.anchor_at.ensures inv.0 (c.note.ensures.0 ∙ same_places _ _ inv.1), more_then inv.1 c.note.ensures.1)

pub returns : goal.returns
returns c = (anchors_done _ _ _ _ _ _ (omega arith) (omega arith) c.loop-i.invariant.0, c.loop-i.invariant.1)
