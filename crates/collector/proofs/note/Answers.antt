-- `collector::note` meets its contract. Assumes nothing. That an unmarked object of partition t finds room in the list is `noted_room`.
use native.Mathlib.Omega.{arith}
use Rattle.model.proofs.Walking.{longer_none, longer_one}
use Rattle.image.proofs.Within.{places}
use Rattle.collector.proofs.Listing.{fresh, noted_far, noted_room, noted_here}
use Rattle.collector.proofs.note.Goals as goal

pub push-requires : goal.push-requires
push-requires c =
    let r = c.requires in
    let f = fresh r.within r.t_lt_p.1 c.if-w-eq0.false c.place_of-j.ensures c.state_at.ensures c.if-state_at-ne1.false c.mark_word.ensures c.part_of.ensures r.listed in
    (noted_room f c.if-part_of-t.true, omega (arith, f.place, places r.within))

pub returns-then-part_of-t : goal.returns-then-part_of-t
returns-then-part_of-t c =
    let r = c.requires in
    let f = fresh r.within r.t_lt_p.1 c.if-w-eq0.false c.place_of-j.ensures c.state_at.ensures c.if-state_at-ne1.false c.mark_word.ensures c.part_of.ensures r.listed in
    let here = c.if-part_of-t.true in
    let e = c.push.ensures in
    (c.mark_word.ensures, noted_here f here _ e.places e.number, rw (e.places, e.number) (longer_one _ _ _ (omega (arith, noted_room f here, c.args.list.now.long))))

pub returns-else-part_of-t : goal.returns-else-part_of-t
returns-else-part_of-t c =
    let r = c.requires in
    let f = fresh r.within r.t_lt_p.1 c.if-w-eq0.false c.place_of-j.ensures c.state_at.ensures c.if-state_at-ne1.false c.mark_word.ensures c.part_of.ensures r.listed in
    (c.mark_word.ensures, noted_far f c.if-part_of-t.false, longer_none _ _)
