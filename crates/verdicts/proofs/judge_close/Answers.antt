-- `verdicts::judge_close` meets its contract. Assumes nothing.
-- The checks in the paper's order; what each search found is what the model's test says (Searches).
use mathlib.Core.Bool.{true≢false}
use Rattle.loops.proofs.Tests.{told_true, told_false}
use Rattle.verdicts.proofs.Checks.{passes, stops}
use Rattle.model.specs.Judge.{judge}
use Rattle.model.specs.Image.{phase}
use Rattle.image.proofs.Within.{has_word}
use native.Mathlib.Omega.{arith}
use mathlib.Core.Path.{refl}
use borrow.Author.Tests.{eq-eqb, ne_eqb}
use Rattle.verdicts.proofs.judge_close.Goals as goal

pub head_at-requires : goal.head_at-requires
head_at-requires c =
    has_word _ _ _ c.requires phase (omega arith)

pub returns-then-head_at-ne1 : goal.returns-then-head_at-ne1
unfolding judge
returns-then-head_at-ne1 c =
    stops _ (omega (arith, ne_eqb)) c.refuse.ensures

pub returns-then-not-r : goal.returns-then-not-r
unfolding judge
returns-then-not-r c =
    passes _ _ (omega (arith, eq-eqb)) (stops _ (told_false c.rooted-r.ensures c.if-not-r.true) c.refuse-then-not-r.ensures)

pub returns-in-Some : goal.returns-in-Some
unfolding judge
returns-in-Some c =
    let found = c.in-Some.ensures in
    passes _ _ (omega (arith, eq-eqb)) (passes _ _ (told_true c.rooted-r.ensures c.if-not-r.false) (stops _ (ne_eqb _ _ (λ e. true≢false (found.none.1 e))) (rw (← found.lowest) c.refuse-in-Some.ensures)))

pub returns-then-not-l : goal.returns-then-not-l
unfolding judge
returns-then-not-l c =
    passes _ _ (omega (arith, eq-eqb)) (passes _ _ (told_true c.rooted-r.ensures c.if-not-r.false) (passes _ _ (eq-eqb _ _ (c.in_default.ensures.none.0 refl)) (stops _ (told_false c.led-l.ensures c.if-not-l.true) c.refuse-then-not-l.ensures)))

pub returns : goal.returns
unfolding judge
returns c =
    passes _ _ (omega (arith, eq-eqb)) (passes _ _ (told_true c.rooted-r.ensures c.if-not-r.false) (passes _ _ (eq-eqb _ _ (c.in_default.ensures.none.0 refl)) (passes _ _ (told_true c.led-l.ensures c.if-not-l.false) refl)))
