-- `reporting::rows::put_place` meets its contract. Assumes nothing.
use Rattle.reporting.proofs.Texts.{part_small, slot_small, object_room, place_free, place_used}
use Rattle.kinds.specs.Names.{most_partitions, most_slots}
use Rattle.writer.proofs.Puts.{put_none}
use Prim.Native.Nat.{◌/◌, ◌%◌, ◌<◌}
use mathlib.Core.Path.{sym, ◌∙◌}
use native.Mathlib.Omega.{arith}
use Rattle.reporting.proofs.rows.put_place.Goals as goal

pub returns-then-state_at-eq0 : goal.returns-then-state_at-eq0
returns-then-state_at-eq0 c =
    rw (place_free _ _ _ (sym c.state_at.ensures ∙ c.if-state_at-eq0.true)) (put_none _ _)

pub overflow_cast-j : goal.overflow_cast-j
overflow_cast-j c =
    let small : (c.args.j / c.args.s < most_partitions) × (c.args.j % c.args.s < most_slots) = let a = c.args in
    (part_small a.s a.j (omega arith) (omega arith), slot_small a.s a.j (omega arith) (omega arith)) in
    omega (arith, small)

pub overflow_cast-j-2 : goal.overflow_cast-j-2
overflow_cast-j-2 c =
    let small : (c.args.j / c.args.s < most_partitions) × (c.args.j % c.args.s < most_slots) = let a = c.args in
    (part_small a.s a.j (omega arith) (omega arith), slot_small a.s a.j (omega arith) (omega arith)) in
    omega (arith, small)

pub put_object-requires : goal.put_object-requires
put_object-requires c =
    let small : (c.args.j / c.args.s < most_partitions) × (c.args.j % c.args.s < most_slots) = let a = c.args in
    (part_small a.s a.j (omega arith) (omega arith), slot_small a.s a.j (omega arith) (omega arith)) in
    object_room _ _ _ _ _ (omega (arith, small)) (omega (arith, small)) (omega arith)

pub returns : goal.returns
returns c =
    rw (place_used _ _ _ (λ z. c.if-state_at-eq0.false (c.state_at.ensures ∙ z)), ← c.payload_at-v.ensures) c.put_object.ensures
