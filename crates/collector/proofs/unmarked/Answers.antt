-- `collector::unmarked` meets its contract. Assumes nothing.
use Prim.Native.Nat.{ℕ}
use mathlib.Core.Path.{sym, ◌∙◌}
use Rattle.model.specs.Image.{get, state}
use Rattle.collector.proofs.Sweeps.{counted_one, counted_none}
use Rattle.collector.proofs.unmarked.Goals as goal
use Rattle.collector.proofs.unmarked.Goals.{else-state_at-eq1, then-state_at-eq1}

pub loop-j-preserved : goal.loop-j-preserved
loop-j-preserved c =
    let i = c.loop-j.invariant in
    let word = λ (j : ℕ). get c.args.img.now (state j) in
    elim c.if-state_at-eq1.branch [ then-state_at-eq1 h ↦ h.c-is ∙ counted_one word 1 i (sym c.state_at.ensures ∙ h.if-state_at-eq1.true) | else-state_at-eq1 h ↦ h.c-is ∙ counted_none word 1 i (λ e. h.if-state_at-eq1.false (c.state_at.ensures ∙ e)) ]
