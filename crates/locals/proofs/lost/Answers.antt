-- `locals::lost` meets its contract. Assumes nothing.
use Rattle.std.proofs.lemmas.Iterator.{YieldsList-from_range}
use Rattle.std.proofs.lemmas.Iterator.Consumers.{YieldsList-from_filter, count_from_yields_List}
use Rattle.std.proofs.lemmas.List.Sums.{length-filter}
use Rattle.std.specs.List.{range_with_len}
use Prim.Native.Nat.{ℕ}
use Rattle.locals.specs.Slots.{lost_at}
use Rattle.locals.proofs.Freeing.{count_range}
use borrow.Author.Rules.{rules}
use borrow.Author.Tests.{tests}
use mathlib.Core.Path.{◌∙◌}
use native.Mathlib.Omega.{arith}
use Rattle.locals.proofs.lost.Goals as goal

pub returns : goal.returns
returns c =
    let a = c.args in
    let test = lost_at a.s a.t a.img.now a.marks.now in
    count_from_yields_List c.filter.result _ c.count.ensures.ran (YieldsList-from_filter _ test (YieldsList-from_range 0 _ a.s c.filter.ensures.source (omega arith)) c.filter.ensures.closure (λ x b q k. search (rules, tests)))
    ∙ (length-filter {X = ℕ} test (range_with_len 0 a.s) ∙ count_range test a.s)
