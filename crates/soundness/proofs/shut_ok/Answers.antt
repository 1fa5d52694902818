-- `soundness::shut_ok` meets its contract. Assumes nothing. Each step of the chain is the next of the model's.
use mathlib.Core.Path.{◌≡◌}
use native.Mathlib.Omega.{arith}
use lib.Dec.{eqb}
use borrow.Author.Tests.{eq-eqb, ne_eqb}
use Rattle.loops.specs.Loop.{both, every}
use Rattle.kinds.specs.Names.{most_partitions}
use Rattle.model.specs.Sound.{flag_down}
use Rattle.model.specs.Image.{count, allowance, get}
use Rattle.soundness.proofs.Rows.{shaped_has, shut_chain}
use Rattle.soundness.proofs.shut_ok.Goals as goal
use Rattle.soundness.proofs.shut_ok.Goals.{Joined-head_at-eq0-2, then-head_at-eq0, else-head_at-eq0, then-head_at-eq0-2, else-head_at-eq0-2}

pub head_at-requires : goal.head_at-requires
head_at-requires c =
    shaped_has c.requires count (omega arith)

pub head_at-requires-then-head_at-eq0 : goal.head_at-requires-then-head_at-eq0
head_at-requires-then-head_at-eq0 c =
    shaped_has c.requires allowance (omega arith)

-- the first three tests of the chain
first_three : (c : Joined-head_at-eq0-2) → let x = c.args.img.now in c.if-head_at-eq0-2.value ≡ both (both (eqb (get x count) 0) (eqb (get x allowance) 0)) (every most_partitions (flag_down x))
first_three c =
    let x = c.args.img.now in
    let heads : c.if-head_at-eq0.value ≡ both (eqb (get x count) 0) (eqb (get x allowance) 0) =
    elim c.if-head_at-eq0.branch [
      | then-head_at-eq0 w ↦ rw (w.value-is, ← c.head_at.ensures, eq-eqb _ _ w.if-head_at-eq0.true, ← w.head_at-then-head_at-eq0.ensures)
      | else-head_at-eq0 w ↦ rw (w.value-is, ← c.head_at.ensures, ne_eqb _ _ w.if-head_at-eq0.false)
    ] in
    elim c.if-head_at-eq0-2.branch [
      | then-head_at-eq0-2 w ↦ rw (w.value-is, ← heads, w.if-head_at-eq0-2.true) w.flags_down.ensures
      | else-head_at-eq0-2 w ↦ rw (w.value-is, ← heads, w.if-head_at-eq0-2.false)
    ]

pub returns-then-flags_down : goal.returns-then-flags_down
returns-then-flags_down c =
    rw (shut_chain, ← first_three (goal.at.returns-then-flags_down c).Joined-head_at-eq0-2, c.if-flags_down.true) c.unmarked.ensures

pub returns-else-flags_down : goal.returns-else-flags_down
returns-else-flags_down c =
    rw (shut_chain, ← first_three (goal.at.returns-else-flags_down c).Joined-head_at-eq0-2, c.if-flags_down.false)
