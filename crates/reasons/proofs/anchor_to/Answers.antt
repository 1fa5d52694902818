-- `reasons::anchor_to` meets its contract. Assumes nothing.
use Rattle.std.proofs.Common.{rules, tests}
use Rattle.std.proofs.lemmas.Iterator.{serves_from_Range}
use Rattle.image.proofs.Within.{has_word}
use Rattle.model.specs.Image.{anchor, anchors, Has}
use Rattle.loops.proofs.Ranges.{find_range}
use Rattle.holding.specs.Finding.{is_to, anchor_to}
use Prim.Native.Nat.{ℕ, ◌<◌}
use mathlib.Core.Path.{refl}
use Rattle.reasons.proofs.anchor_to.Goals as goal

pub find-requires-clause-callable : goal.find-requires-clause-callable
find-requires-clause-callable c =
    let h : (i : ℕ) → i < anchors → Has c.args.img.now (anchor i) = λ i l. has_word _ _ _ c.requires (anchor i) l in
    serves_from_Range (λ x q k. search rules) (λ x a b. search (rules, h))

pub returns : goal.returns
unfolding anchor_to is_to
returns c = let a = c.args in find_range anchors (λ i. is_to a.s a.img.now (anchor i) a.j) _ _ _ c.find.ensures.ran refl (λ x b q k. search (rules, tests))
