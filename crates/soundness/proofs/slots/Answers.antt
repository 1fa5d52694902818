-- `soundness::slots` meets its contract. Assumes nothing. After j turns the first j places are tested, and their foreign references tallied.
use mathlib.Core.Path.{sym}
use native.Mathlib.Nat.{zero-mul}
use native.Mathlib.Omega.{arith}
use Rattle.loops.proofs.Tests.{told_true, told_false}
use Rattle.loops.proofs.Turns.{every_none, every_more, every_fails}
use Rattle.soundness.proofs.Tallying.{fails, tallied_none}
use Rattle.soundness.proofs.slots.Goals as goal

pub loop-j-init : goal.loop-j-init
loop-j-init c =
    record {
      tested = every_none _;
      tallied = tallied_none _ _ _ c.requires.counts_value;
      from_q = omega (arith, zero-mul c.args.s);
      near_q = omega arith;
    }

pub returns-then-not-slot : goal.returns-then-not-slot
returns-then-not-slot c =
    fails (sym (every_fails _ _ c.loop-j.j c.loop-j-test.true (told_false c.slot.ensures.0 c.if-not-slot.true)))

pub loop-j-preserved : goal.loop-j-preserved
loop-j-preserved c =
    record {
      tested = every_more _ _ c.loop-j.invariant.tested (told_true c.slot.ensures.0 c.if-not-slot.false);
      tallied = c.slot.ensures.1 c.if-not-slot.false;
      from_q = omega arith;
      near_q = omega arith;
    }
