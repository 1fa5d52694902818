-- `soundness::fields` meets its contract. Assumes nothing. After k turns the first k fields are tested and tallied.
use mathlib.Core.Path.{sym}
use native.Mathlib.Omega.{arith}
use Rattle.loops.proofs.Tests.{told_true, told_false}
use Rattle.loops.proofs.Turns.{every_none, every_more, every_fails}
use Rattle.soundness.proofs.Tallying.{fails, tallied_at}
use Rattle.soundness.proofs.fields.Goals as goal

pub loop-k-init : goal.loop-k-init
loop-k-init c =
    record { tested = every_none _; tallied = tallied_at _ _ (omega arith) c.requires.tallied }

pub returns-then-not-field : goal.returns-then-not-field
returns-then-not-field c =
    fails (sym (every_fails _ 4 c.loop-k.k c.loop-k-test.true (told_false c.field.ensures.0 c.if-not-field.true)))

pub loop-k-preserved : goal.loop-k-preserved
loop-k-preserved c =
    record {
      tested = every_more _ _ c.loop-k.invariant.tested (told_true c.field.ensures.0 c.if-not-field.false);
      tallied = tallied_at _ _ (omega arith) (c.field.ensures.1 c.if-not-field.false);
    }
