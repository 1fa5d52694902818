-- `soundness::named` meets its contract. Assumes nothing.
use Prim.Native.Nat.{◌*◌, ◌<◌}
use native.Mathlib.Omega.{arith}
use mathlib.Core.Path.{sym, ◌∙◌}
use Rattle.model.specs.Image.{state, place_of}
use Rattle.model.proofs.Soundness.{ref_not}
use Rattle.image.proofs.Within.{word_in}
use Rattle.soundness.proofs.Rows.{shaped_has, named_so}
use Rattle.soundness.proofs.named.Goals as goal

pub returns-then-p-q : goal.returns-then-p-q
returns-then-p-q c =
    λ κ e. ref_not _ _ _ κ (λ z. c.requires.some (sym e ∙ z)) (λ h. omega (arith, h.partition))

pub returns-then-s-t : goal.returns-then-s-t
returns-then-s-t c =
    λ κ e. ref_not _ _ _ κ (λ z. c.requires.some (sym e ∙ z)) (λ h. omega (arith, h.slot))

pub state_at-requires : goal.state_at-requires
unfolding place_of
state_at-requires c =
    let inside : place_of c.args.s c.args.w < c.args.p * c.args.s = word_in _ _ _ (omega arith) (omega arith) in
    shaped_has c.requires.shaped (state (place_of c.args.s c.args.w)) inside

pub returns : goal.returns
unfolding place_of
returns c =
    let a = c.args in
    λ κ e. named_so a.p a.s a.img.now κ a.w _ _ e c.requires.some (omega arith) (omega arith) c.state_at.ensures c.then_some.ensures
