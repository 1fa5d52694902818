-- `verdicts::judge_name` meets its contract. Assumes nothing.
use Rattle.verdicts.proofs.Naming.{judge_partition, judge_slot, judge_absent, judge_accepts}
use Rattle.image.proofs.Within.{places, has_word}
use Rattle.model.specs.Image.{state, place}
use Prim.Native.Nat.{◌*◌, ◌<◌}
use lib.Arith.{digits_lt}
use mathlib.Core.Path.{◌∙◌}
use native.Mathlib.Omega.{arith}
use Rattle.verdicts.proofs.judge_name.Goals as goal

pub returns-then-p-n : goal.returns-then-p-n
returns-then-p-n c =
    c.refuse.ensures ∙ judge_partition _ _ _ _ c.if-p-n.true

pub returns-then-s-n : goal.returns-then-s-n
returns-then-s-n c =
    c.refuse-then-s-n.ensures ∙ judge_slot _ _ _ _ c.if-s-n.true

pub place-j-requires : goal.place-j-requires
place-j-requires c =
    let inside : place c.args.s c.args.n < c.args.p * c.args.s = digits_lt c.if-p-n.false c.if-s-n.false in
    omega (arith, inside, places c.requires)

pub state_at-requires : goal.state_at-requires
state_at-requires c =
    let inside : place c.args.s c.args.n < c.args.p * c.args.s = digits_lt c.if-p-n.false c.if-s-n.false in
    has_word _ _ _ c.requires (state c.place-j.result) (rw c.place-j.ensures (inside))

pub returns-then-state_at-eq0 : goal.returns-then-state_at-eq0
returns-then-state_at-eq0 c =
    c.refuse-then-state_at-eq0.ensures ∙ judge_absent _ _ _ _ c.if-p-n.false c.if-s-n.false _ _ c.place-j.ensures c.state_at.ensures c.if-state_at-eq0.true

pub returns : goal.returns
returns c =
    judge_accepts _ _ _ _ c.if-p-n.false c.if-s-n.false _ _ c.place-j.ensures c.state_at.ensures c.if-state_at-eq0.false
