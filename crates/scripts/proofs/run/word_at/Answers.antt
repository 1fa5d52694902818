-- `scripts::run::word_at` meets its contract. Assumes nothing.
use mathlib.Core.Path.{◌≡◌}
use Rattle.scripts.specs.declared.run.Run.TheVariants.{Gap, Word}
use Rattle.scripts.specs.Runs.{end_of}
use Rattle.scripts.proofs.Ends.{found_order, found_end}
use Rattle.scripts.proofs.run.word_at.Goals as goal

pub returns-clause-within : goal.returns-clause-within
returns-clause-within c =
    let line = c.args.line.now in
    let from = end_of Gap line c.args.at in
    let some : from ≡ end_of Word line from → ⊥ = λ e. c.if-from-to.false (rw (c.end_of-to.ensures, c.end_of-from.ensures) e) in
    rw (c.end_of-to.ensures, c.end_of-from.ensures) (found_order line c.args.at some, found_end line c.args.at some)
