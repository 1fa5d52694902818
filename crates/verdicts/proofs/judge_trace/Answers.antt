-- `verdicts::judge_trace` meets its contract. Assumes nothing.
use Prim.Native.Nat.{ℕ, ◌<◌}
use Rattle.loops.proofs.Tests.{eq_not, ne_not}
use Rattle.verdicts.proofs.Checks.{passes, stops}
use Rattle.model.specs.Judge.{judge}
use Rattle.model.specs.Image.{Has, head, flag}
use Rattle.image.proofs.Within.{has_word}
use native.Mathlib.Omega.{arith}
use mathlib.Core.Path.{refl}
use borrow.Author.Tests.{eq-eqb, ne_eqb, lt-ltb, le-ltb}
use Rattle.verdicts.proofs.judge_trace.Goals as goal

pub head_at-phase-requires : goal.head_at-phase-requires
head_at-phase-requires c =
    let has-head : (h : ℕ) → h < 5 → Has c.args.img.now (head h) = λ h l. has_word _ _ _ c.requires (head h) l in
    has-head 2 (omega arith)

pub returns-then-phase-ne1 : goal.returns-then-phase-ne1
unfolding judge
returns-then-phase-ne1 c =
    stops _ (omega (arith, ne_eqb)) c.refuse.ensures

pub returns-then-p-q : goal.returns-then-p-q
unfolding judge
returns-then-p-q c =
    passes _ _ (omega (arith, eq-eqb)) (stops _ (omega (arith, le-ltb)) c.refuse-then-p-q.ensures)

pub flag_at-requires : goal.flag_at-requires
flag_at-requires c =
    has_word _ _ _ c.requires (flag c.args.t.0) (omega arith)

pub returns-then-flag_at-ne0 : goal.returns-then-flag_at-ne0
unfolding judge
returns-then-flag_at-ne0 c =
    passes _ _ (omega (arith, eq-eqb)) (passes _ _ (omega (arith, lt-ltb)) (stops _ (omega (arith, ne_eqb)) c.refuse-then-flag_at-ne0.ensures))

pub head_at-requires : goal.head_at-requires
head_at-requires c =
    let has-head : (h : ℕ) → h < 5 → Has c.args.img.now (head h) = λ h l. has_word _ _ _ c.requires (head h) l in
    has-head 3 (omega arith)

pub head_at-requires-2 : goal.head_at-requires-2
head_at-requires-2 c =
    let has-head : (h : ℕ) → h < 5 → Has c.args.img.now (head h) = λ h l. has_word _ _ _ c.requires (head h) l in
    has-head 4 (omega arith)

pub returns-then-head_at : goal.returns-then-head_at
unfolding judge
returns-then-head_at c =
    passes _ _ (omega (arith, eq-eqb)) (passes _ _ (omega (arith, lt-ltb)) (passes _ _ (omega (arith, eq-eqb)) (stops _ (omega (arith, eq_not)) c.refuse-then-head_at.ensures)))

pub returns : goal.returns
unfolding judge
returns c =
    passes _ _ (omega (arith, eq-eqb)) (passes _ _ (omega (arith, lt-ltb)) (passes _ _ (omega (arith, eq-eqb)) (passes _ _ (omega (arith, ne_not)) refl)))
