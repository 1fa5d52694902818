-- `reasons::explain` meets its contract. Assumes nothing.
use Rattle.reasons.proofs.Explaining.{placed, anchored, answer_none, way, few_references, answer_narrow, answer_held}
use Rattle.std.proofs.Common.{rules}
use Rattle.model.specs.Image.{anchors}
use Prim.Native.Nat.{◌<◌}
use Rattle.holding.specs.Finding.{anchor_to, start_of}
use borrow.Author.Tests.{ltb-true, ltb-false}
use native.Mathlib.Omega.{arith}
use mathlib.Core.Path.{◌≡◌, sym, ◌∙◌, ap}
use Rattle.reasons.proofs.explain.Goals as goal

pub returns-then-not-is_met : goal.returns-then-not-is_met
returns-then-not-is_met c = rw c.refuse.ensures (answer_none c.requires.within c.spread.ensures _ (omega (arith, ltb-false _ _ (sym c.if-not-is_met.ensures))))

pub overflow_mul-k : goal.overflow_mul-k
overflow_mul-k c =
    omega (arith, few_references c.requires.within c.spread.ensures c.requires.t_bound (ltb-true _ _ (sym c.if-not-is_met.ensures)) _ c.depth-k.ensures)

pub returns-then-words-k : goal.returns-then-words-k
returns-then-words-k c =
    rw c.refuse-then-words-k.ensures
    (answer_narrow c.requires.within c.spread.ensures c.requires.t_bound (ltb-true _ _ (sym c.if-not-is_met.ensures)) _ c.depth-k.ensures _ c.if-words-k.true)

pub fill-h-requires-clause-placed : goal.fill-h-requires-clause-placed
fill-h-requires-clause-placed c = placed c.requires.within c.spread.ensures

pub fill-h-requires-clause-way : goal.fill-h-requires-clause-way
fill-h-requires-clause-way c =
    way c.requires.within c.spread.ensures c.requires.t_bound (ltb-true _ _ (sym c.if-not-is_met.ensures)) _ c.depth-k.ensures

pub unwrap-a-requires : goal.unwrap-a-requires
unwrap-a-requires c =
    let found : anchor_to c.args.s c.args.img.now c.fill-h.result < anchors = anchored c.requires.within c.spread.ensures c.fill-h.ensures in
    search rules

pub returns : goal.returns
returns c =
    let found : c.unwrap-a.result ≡ anchor_to c.args.s c.args.img.now c.fill-h.result = search rules in
    answer_held c.requires.within c.spread.ensures c.requires.t_bound (ltb-true _ _ (sym c.if-not-is_met.ensures)) _ c.depth-k.ensures _ _ _ _ c.if-words-k.false c.fill-h.ensures
    (c.start_of.ensures ∙ ap start_of found)
