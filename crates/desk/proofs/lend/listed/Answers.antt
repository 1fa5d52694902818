-- `desk::lend::listed` meets its contract. Assumes nothing.
use mathlib.Core.Path.{refl, sym, ◌∙◌}
use native.Mathlib.Omega.{arith}
use lib.ListN.{length-set}
use lib.Seq.{length-take-le}
use Rattle.desk.proofs.Listing.{going_first, going_ends, going_fails, going_large, going_full, going_on}
use borrow.Author.Rules.{rules}
use Rattle.desk.proofs.lend.listed.Goals as goal

pub loop-v-init : goal.loop-v-init
loop-v-init c =
    going_first _ _ _ _ refl

pub shape_of-list-in-Nothing : goal.shape_of-list-in-Nothing
shape_of-list-in-Nothing c =
    let h = c.loop-v.invariant.same in search (rules, h)

pub returns-in-Nothing : goal.returns-in-Nothing
returns-in-Nothing c =
    record { prefix_len = (c.loop-v.invariant.within, sym (length-take-le _ _ c.loop-v.invariant.within)); list_after = going_ends _ _ _ _ _ _ c.loop-v.invariant (sym c.next_number.ensures ∙ c.in-Nothing.is) }

pub shape_of-list-in-Bad : goal.shape_of-list-in-Bad
shape_of-list-in-Bad c =
    let h = c.loop-v.invariant.same in search (rules, h)

pub returns-in-Bad : goal.returns-in-Bad
returns-in-Bad c =
    record { prefix_len = search rules; list_after = going_fails _ _ _ _ _ _ c.loop-v.invariant (sym c.next_number.ensures ∙ c.in-Bad.is) }

pub shape_of-list-then-v-gt255 : goal.shape_of-list-then-v-gt255
shape_of-list-then-v-gt255 c =
    let h = c.loop-v.invariant.same in search (rules, h)

pub returns-then-v-gt255 : goal.returns-then-v-gt255
returns-then-v-gt255 c =
    record { prefix_len = search rules; list_after = going_large _ _ _ _ _ _ c.loop-v.invariant _ _ (sym c.next_number.ensures ∙ c.in-Number.is) (omega arith) }

pub shape_of-list-then-n-list : goal.shape_of-list-then-n-list
shape_of-list-then-n-list c =
    let h = c.loop-v.invariant.same in search (rules, h)

pub returns-then-n-list : goal.returns-then-n-list
returns-then-n-list c =
    record { prefix_len = search rules; list_after = going_full _ _ _ _ _ _ c.loop-v.invariant _ _ (sym c.next_number.ensures ∙ c.in-Number.is) c.if-n-list.true }

pub loop-v-smaller : goal.loop-v-smaller
loop-v-smaller c =
    simp length-set (omega arith)

pub loop-v-preserved : goal.loop-v-preserved
loop-v-preserved c =
    going_on _ _ _ _ _ _ c.loop-v.invariant _ _ (sym c.next_number.ensures ∙ c.in-Number.is) (omega arith) (omega arith)
