-- `scripts::command::numbers` meets its contract. Assumes nothing.
use Rattle.scripts.proofs.Commands.{reading_first, reading_end, reading_bad, reading_over, reading_more, pushed_less}
use borrow.Author.Rules.{rules}
use Rattle.scripts.proofs.command.numbers.Goals as goal

pub loop-v-init : goal.loop-v-init
loop-v-init c =
    reading_first _ _ _ _ c.new-k.ensures

pub returns-in-Nothing : goal.returns-in-Nothing
returns-in-Nothing c =
    reading_end _ _ _ _ _ c.loop-v.invariant _ c.next_number.ensures c.in-Nothing.is _ c.complete.ensures

pub returns-in-Bad : goal.returns-in-Bad
returns-in-Bad c =
    reading_bad _ _ _ _ _ c.loop-v.invariant _ c.next_number.ensures c.in-Bad.is

pub returns-then-k-eq-LIMIT : goal.returns-then-k-eq-LIMIT
returns-then-k-eq-LIMIT c =
    reading_over _ _ _ _ _ c.loop-v.invariant _ c.next_number.ensures _ _ c.in-Number.is (search rules)

pub loop-v-smaller : goal.loop-v-smaller
loop-v-smaller c =
    let l = c.loop-v in
    pushed_less l.k _ _ l.invariant.few c.if-k-eq-LIMIT.false c.with-k.ensures

pub loop-v-preserved : goal.loop-v-preserved
loop-v-preserved c =
    reading_more _ _ _ _ _ c.loop-v.invariant _ c.next_number.ensures _ _ c.in-Number.is c.if-k-eq-LIMIT.false _ c.with-k.ensures
