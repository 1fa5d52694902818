-- `reasons::queue::Queue::note_anchors` meets its contract. Assumes nothing. After a turns what the first a anchors name is met.
use Rattle.reasons.proofs.Queueing.{keyed_anchors, part_first, part_more, part_word, word_in}
use Rattle.image.proofs.Within.{has_word}
use Rattle.model.specs.Image.{anchor, an_anchor}
use native.Mathlib.Omega.{arith}
use Rattle.reasons.proofs.queue.Queue.note_anchors.Goals as goal

pub loop-a-init : goal.loop-a-init
loop-a-init c = part_first c.requires.empty (keyed_anchors _ _ _)

pub anchor_at-requires : goal.anchor_at-requires
anchor_at-requires c = has_word _ _ _ c.requires.within (anchor c.loop-a.a) c.loop-a-test.true

pub note-requires-clause-w_bound : goal.note-requires-clause-w_bound
note-requires-clause-w_bound c = part_word c.requires.within c.loop-a.invariant (an_anchor c.loop-a-test.true) _ c.anchor_at.ensures

pub loop-a-preserved : goal.loop-a-preserved
loop-a-preserved c =
    part_more c.loop-a.invariant (omega arith) c.loop-a-test.true _ c.anchor_at.ensures (word_in c.requires.within _ (an_anchor c.loop-a-test.true) _ c.anchor_at.ensures) c.note.ensures
