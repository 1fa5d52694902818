-- `reasons::field_to` meets its contract. Assumes nothing.
use Rattle.std.proofs.Common.{rules, tests}
use Rattle.std.proofs.lemmas.Iterator.{serves_from_Range}
use Rattle.image.proofs.Within.{has_word}
use Rattle.model.specs.Image.{field, Has}
use Rattle.loops.proofs.Ranges.{find_range}
use Rattle.holding.specs.Finding.{is_to, field_to}
use Prim.Native.Nat.{ℕ, ◌<◌}
use mathlib.Core.Path.{refl}
use Rattle.reasons.proofs.field_to.Goals as goal

pub find-requires-clause-callable : goal.find-requires-clause-callable
find-requires-clause-callable c =
    let h : (i : ℕ) → i < 4 → Has c.args.img.now (field c.args.h i) = λ i l. has_word _ _ _ c.requires.within (field c.args.h i) (c.requires.h_bound, l) in
    serves_from_Range (λ x q k. search rules) (λ x a b. search (rules, h))

pub returns : goal.returns
unfolding field_to is_to
returns c = let a = c.args in find_range 4 (λ i. is_to a.s a.img.now (field a.h i) a.j) _ _ _ c.find.ensures.ran refl (λ x b q k. search (rules, tests))
