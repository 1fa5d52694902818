-- `reasons::queue::Queue::note_fields` meets its contract. Assumes nothing. After k turns what the first k fields name is met.
use Rattle.reasons.proofs.Tables.{tables_few}
use Rattle.reasons.proofs.Queueing.{listed_in, keyed_fields, part_first, part_more, part_word, part_room, word_in}
use Rattle.image.proofs.Within.{has_word}
use Rattle.model.specs.Image.{field, a_field}
use native.Mathlib.Omega.{arith}
use Rattle.reasons.proofs.queue.Queue.note_fields.Goals as goal

pub offset_bounds-self-b : goal.offset_bounds-self-b
offset_bounds-self-b c = let q = c.args.self.now in omega (arith, tables_few q.tables)

pub bounds-self-b : goal.bounds-self-b
bounds-self-b c = let q = c.args.self.now in omega (arith, tables_few q.tables)

pub loop-k-init : goal.loop-k-init
loop-k-init c = part_first c.requires.levels (keyed_fields _ _ _ _ _ c.wide-j.ensures)

pub field_at-requires : goal.field_at-requires
field_at-requires c =
    has_word _ _ _ c.requires.within (field c.wide-j.result c.loop-k.k) (listed_in c.requires.levels c.requires.b_in_bounds c.wide-j.ensures, c.loop-k-test.true)

pub note-requires-clause-w_bound : goal.note-requires-clause-w_bound
note-requires-clause-w_bound c =
    part_word c.requires.within c.loop-k.invariant (a_field (listed_in c.requires.levels c.requires.b_in_bounds c.wide-j.ensures) c.loop-k-test.true) _ c.field_at.ensures

pub note-requires-clause-u_le_most_places : goal.note-requires-clause-u_le_most_places
note-requires-clause-u_le_most_places c = part_room c.loop-k.invariant (omega (arith, c.requires.b_in_bounds))

pub loop-k-preserved : goal.loop-k-preserved
loop-k-preserved c =
    part_more c.loop-k.invariant (omega (arith, c.requires.b_in_bounds)) c.loop-k-test.true _ c.field_at.ensures
    (word_in c.requires.within _ (a_field (listed_in c.requires.levels c.requires.b_in_bounds c.wide-j.ensures) c.loop-k-test.true) _ c.field_at.ensures)
    c.note.ensures
