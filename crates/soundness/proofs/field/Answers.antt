-- `soundness::field` meets its contract. Assumes nothing. A word that names a slot in use names a place, which has a tally with room for one more.
use mathlib.Core.Path.{sym, ap, ◌∙◌}
use native.Mathlib.Omega.{arith}
use Rattle.model.specs.Image.{field, place_of, part_of}
use Rattle.model.proofs.Soundness.{ref_nothing}
use Rattle.soundness.proofs.Rows.{shaped_has}
use Rattle.soundness.proofs.Tallying.{places, byte_bit, byte_le, tally_room, tallied_nothing, tallied_more}
use Rattle.soundness.proofs.field.Goals as goal

pub field_at-w-requires : goal.field_at-w-requires
field_at-w-requires c =
    shaped_has c.requires.shaped (field c.args.j c.args.k) (c.requires.j_bound.0, c.requires.j_bound.1)

pub returns-then-w-eq0 : goal.returns-then-w-eq0
returns-then-w-eq0 c =
    (sym (ref_nothing _ _ _ (field c.args.j c.args.k) (sym c.field_at-w.ensures ∙ c.if-w-eq0.true)), λ e. tallied_nothing _ _ c.requires.j_bound.1 _ c.field_at-w.ensures c.requires.tallied c.if-w-eq0.true)

pub overflow_add-counts : goal.overflow_add-counts
overflow_add-counts c =
    let found = c.in-Some.ensures (field c.args.j c.args.k) (sym c.field_at-w.ensures) in
    let few = places c.requires.shaped in
    omega (arith, byte_le _ c.from.ensures, tally_room c.requires.tallied c.in-Some.i (omega (arith, found.inside, few)), few, c.requires.j_bound.0, c.requires.j_bound.1)

pub returns : goal.returns
returns c =
    let a = c.args in
    let found = c.in-Some.ensures (field a.j a.k) (sym c.field_at-w.ensures) in
    let at = found.place ∙ ap (place_of a.s) (sym c.field_at-w.ensures) in
    (sym found.sound, λ e. tallied_more a.j a.k c.requires.j_bound.1 _ c.field_at-w.ensures c.requires.tallied c.in-Some.i a.q c.in-Some.r _ c.if-w-eq0.false (omega (arith, found.inside, places c.requires.shaped)) at c.requires.j_bound.2 (found.partition ∙ ap (part_of a.s) at) (c.from.ensures ∙ byte_bit _))
