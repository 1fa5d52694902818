-- `soundness::ref_ok` meets its contract. Assumes nothing.
use mathlib.Core.Path.{sym, ◌∙◌}
use borrow.Author.Tests.{eq-eqb}
use Rattle.model.proofs.Soundness.{ref_nothing}
use Rattle.soundness.proofs.ref_ok.Goals as goal

pub returns-then-w-eq0 : goal.returns-then-w-eq0
returns-then-w-eq0 c =
    λ κ e. eq-eqb _ _ c.if-w-eq0.true ∙ sym (ref_nothing _ _ _ κ (e ∙ c.if-w-eq0.true))
