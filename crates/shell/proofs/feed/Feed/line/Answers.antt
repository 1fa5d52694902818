-- `shell::feed::Feed::line` meets its contract. Assumes nothing.
use native.Mathlib.Omega.{arith}
use Rattle.shell.proofs.Feeding.{bare_part}
use borrow.Author.Rules.{rules}
use Rattle.shell.proofs.feed.Feed.line.Goals as goal

pub overflow_add-result : goal.overflow_add-result
overflow_add-result c =
    let b = bare_part c.args.script.now c.args.self.now.at c.args.end c.bare-n.result (search rules) (search rules) c.bare-n.ensures in search (rules, b)

pub invariant_of-result : goal.invariant_of-result
invariant_of-result c =
    let b = bare_part c.args.script.now c.args.self.now.at c.args.end c.bare-n.result (search rules) (search rules) c.bare-n.ensures in
    record { forth = omega arith; within = omega (arith, b) }
