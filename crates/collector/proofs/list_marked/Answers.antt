-- `collector::list_marked` meets its contract. Assumes nothing. After k turns the list has the marked objects of the first k slots.
use Prim.Native.Nat.{ℕ, ◌+◌, ◌*◌}
use mathlib.Core.Path.{subst}
use native.Mathlib.Nat.{le_antisymm}
use native.Mathlib.Omega.{arith}
use borrow.Author.Tests.{eq-eqb, ne_eqb}
use Rattle.model.specs.Acts.{marked}
use Rattle.model.specs.Walk.{Todo}
use Rattle.model.proofs.Places.{slot_in}
use Rattle.model.proofs.Walking.{todo_none, todo_most, todo_in, todo_out}
use Rattle.image.proofs.Within.{places}
use Rattle.collector.proofs.list_marked.Goals.{else-state_at-eq2, then-state_at-eq2}
use Rattle.collector.proofs.list_marked.Goals as goal
use Rattle.collector.proofs.list_marked.Goals.{else-state_at-eq2, then-state_at-eq2}

pub loop-k-init : goal.loop-k-init
loop-k-init c =
    rw c.requires.t_lt_p.1 (todo_none marked _ 0 _ _ (omega arith) (λ j l. absurd (omega arith)))

pub push-requires : goal.push-requires
push-requires c =
    let h = c.requires.within in
    (omega (arith, todo_most c.loop-k.invariant, c.loop-k-test.true, h.limits.slots_most), omega (arith, slot_in c.args.p c.args.s h.limits.some_slot c.args.t c.loop-k.k c.requires.t_lt_p.0 c.loop-k-test.true, places h))

pub loop-k-preserved : goal.loop-k-preserved
loop-k-preserved c =
    let i = c.loop-k.invariant in
    elim c.if-state_at-eq2.branch [ then-state_at-eq2 h ↦ rw (h.list-is, h.push.ensures.places, h.push.ensures.number) (todo_in i (omega (arith, eq-eqb)) (omega arith)) | else-state_at-eq2 h ↦ rw h.list-is (todo_out i (omega (arith, ne_eqb)) (omega arith)) ]

pub returns : goal.returns
returns c =
    let a = c.args in
    let l = c.loop-k in
    record { todo = subst (λ (n : ℕ). Todo marked (λ i. a.t * a.s + i) n a.img.now l.list.places l.list.number) (le_antisymm c.loop-k.auto.k-end c.loop-k-test.false) l.invariant }
