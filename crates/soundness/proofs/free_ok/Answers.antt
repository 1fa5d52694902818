-- `soundness::free_ok` meets its contract. Assumes nothing.
use Rattle.std.proofs.Common.{rules, tests}
use Rattle.std.proofs.lemmas.Iterator.{serves_from_Range}
use Rattle.loops.proofs.Ranges.{all_range}
use Rattle.soundness.proofs.Rows.{shaped_has}
use native.Mathlib.Omega.{arith}
use mathlib.Core.Path.{◌≡◌, refl}
use lib.Dec.{eqb}
use borrow.Author.Tests.{eq-eqb, ne_eqb}
use Rattle.kinds.specs.Names.{fields}
use Rattle.model.specs.Image.{payload, field, get}
use Rattle.model.specs.Sound.{free_ok}
use Rattle.soundness.proofs.free_ok.Goals as goal

pub payload_at-requires : goal.payload_at-requires
payload_at-requires c =
    shaped_has c.requires.0 (payload c.args.j) c.requires.1

pub all-requires-clause-callable : goal.all-requires-clause-callable
all-requires-clause-callable c =
    let shaped = c.requires.0 in
    serves_from_Range (λ x q k. search rules) (λ x a b. search (rules, shaped_has))

pub returns-then-payload_at-eq0 : goal.returns-then-payload_at-eq0
unfolding free_ok
returns-then-payload_at-eq0 c =
    let none : c.payload_at.result ≡ 0 = omega (arith, c.if-payload_at-eq0.true) in
    rw (← c.payload_at.ensures, eq-eqb _ _ none)
    (all_range fields (λ k. eqb (get c.args.img.now (field c.args.j k)) 0) _ _ _ c.all.ensures.ran refl (λ x b q k. search (rules, tests)))

pub returns-else-payload_at-eq0 : goal.returns-else-payload_at-eq0
unfolding free_ok
returns-else-payload_at-eq0 c =
    rw (← c.payload_at.ensures, ne_eqb _ _ (λ (none : c.payload_at.result ≡ 0). c.if-payload_at-eq0.false (omega (arith, none))))
