-- `soundness::sound_at` meets its contract. Assumes nothing. Each step of the chain is the next of the model's; the phase decides at its end.
use Prim.Native.Nat.{◌*◌}
use mathlib.Core.Path.{◌≡◌, sym}
use native.Mathlib.Omega.{arith}
use borrow.Author.Tests.{eq-eqb, ne_eqb}
use Rattle.loops.specs.Loop.{both, every}
use Rattle.kinds.specs.Names.{most_partitions}
use Rattle.model.specs.Image.{phase, anchors}
use Rattle.model.specs.Sound.{slot_ok, count_ok, anchor_ok, flag_ok}
use Rattle.model.proofs.Soundness.{sound_at_not}
use Rattle.soundness.proofs.Rows.{shaped_has, sound_chain}
use Rattle.soundness.proofs.sound_at.Goals as goal
use Rattle.soundness.proofs.sound_at.Goals.{Joined-anchors, then-slots, else-slots, then-counted, else-counted, then-anchors, else-anchors}

pub head_at-phase-requires : goal.head_at-phase-requires
head_at-phase-requires c =
    shaped_has c.requires phase (omega arith)

pub returns-then-phase-gt1 : goal.returns-then-phase-gt1
returns-then-phase-gt1 c =
    sym (sound_at_not _ _ _ (λ h. omega (arith, h.phase_bit)))

-- the chain, but for what the phase asks
four_parts : (c : Joined-anchors) → let a = c.args in let n = a.p * a.s in let x = a.img.now in
    c.if-anchors.value ≡ both (both (both (every n (slot_ok a.p a.s x)) (every n (count_ok a.s n x))) (every anchors (anchor_ok a.p a.s x))) (every most_partitions (flag_ok a.p x))
four_parts c =
    let a = c.args in
    let n = a.p * a.s in
    let x = a.img.now in
    let counts-too : c.if-slots.value ≡ both (every n (slot_ok a.p a.s x)) (every n (count_ok a.s n x)) =
    elim c.if-slots.branch [
      | then-slots w ↦ rw (w.value-is, ← c.slots.ensures.0, w.if-slots.true) w.counted.ensures
      | else-slots w ↦ rw (w.value-is, ← c.slots.ensures.0, w.if-slots.false)
    ] in
    let anchors-too : c.if-counted.value ≡ both (both (every n (slot_ok a.p a.s x)) (every n (count_ok a.s n x))) (every anchors (anchor_ok a.p a.s x)) =
    elim c.if-counted.branch [
      | then-counted w ↦ rw (w.value-is, ← counts-too, w.if-counted.true) w.anchors.ensures
      | else-counted w ↦ rw (w.value-is, ← counts-too, w.if-counted.false)
    ] in
    elim c.if-anchors.branch [
      | then-anchors w ↦ rw (w.value-is, ← anchors-too, w.if-anchors.true) w.flags.ensures
      | else-anchors w ↦ rw (w.value-is, ← anchors-too, w.if-anchors.false)
    ]

pub returns-then-phase-eq1 : goal.returns-then-phase-eq1
returns-then-phase-eq1 c =
    rw (sound_chain _ _ _ c.requires (omega arith), ← four_parts (goal.at.returns-then-phase-eq1 c).Joined-anchors, c.if-flags.true, ← c.head_at-phase.ensures, eq-eqb _ _ c.if-phase-eq1.true)
    c.open_ok.ensures

pub returns-else-phase-eq1 : goal.returns-else-phase-eq1
returns-else-phase-eq1 c =
    rw (sound_chain _ _ _ c.requires (omega arith), ← four_parts (goal.at.returns-else-phase-eq1 c).Joined-anchors, c.if-flags.true, ← c.head_at-phase.ensures, ne_eqb _ _ c.if-phase-eq1.false)
    c.shut_ok.ensures

pub returns-else-flags : goal.returns-else-flags
returns-else-flags c =
    rw (sound_chain _ _ _ c.requires (omega arith), ← four_parts (goal.at.returns-else-flags c).Joined-anchors, c.if-flags.false)
