-- `scripts::run::end_of` meets its contract. Assumes nothing.
use native.Mathlib.Omega.{arith}
use mathlib.Core.Path.{sym}
use Rattle.scripts.proofs.Ends.{end_past, end_part, end_within}
use Rattle.scripts.proofs.run.end_of.Goals as goal

pub returns-then-at-bytes : goal.returns-then-at-bytes
returns-then-at-bytes c =
    sym (end_past _ _ _ c.if-at-bytes.true)

pub overflow_add-result : goal.overflow_add-result
overflow_add-result c =
    let a = c.args in
    omega (arith, c.run_len.ensures, end_part a.run a.bytes.now a.at, end_within a.run a.bytes.now a.at (omega arith))

pub returns : goal.returns
returns c =
    let a = c.args in
    rw c.run_len.ensures (end_part a.run a.bytes.now a.at)
