-- `soundness::slot` meets its contract. Assumes nothing.
use mathlib.Core.Path.{sym, ◌∙◌}
use native.Mathlib.Omega.{arith}
use Rattle.model.specs.Image.{state}
use Rattle.soundness.proofs.Rows.{shaped_has}
use Rattle.soundness.proofs.Tallying.{fails, slot_free, slot_unknown, slot_used, tallied_free}
use Rattle.soundness.proofs.slot.Goals as goal

pub state_at-requires : goal.state_at-requires
state_at-requires c =
    shaped_has c.requires.shaped (state c.args.j) c.requires.j_bound.0

pub returns-in-0 : goal.returns-in-0
returns-in-0 c =
    (c.free_ok.ensures ∙ sym (slot_free _ _ _ _ _ c.state_at.ensures c.in-0.is), λ e. tallied_free _ (sym c.free_ok.ensures ∙ e) c.requires.tallied)

pub returns-in-1 : goal.returns-in-1
returns-in-1 c =
    (c.fields.ensures.0 ∙ sym (slot_used _ _ _ _ c.state_at.result c.state_at.ensures (λ z. omega arith) (omega arith)), c.fields.ensures.1)

pub returns-in_default : goal.returns-in_default
returns-in_default c =
    fails (slot_unknown _ _ _ _ c.state_at.result c.state_at.ensures (omega arith))
