-- `scripts::number::scanned` meets its contract. Assumes nothing.
use native.Mathlib.Omega.{arith}
use mathlib.Core.Path.{refl, sym, ◌∙◌}
use lib.ListN.{drop_of_length-le}
use Rattle.lines.specs.declared.machine.Scan.TheVariants.{Start}
use Rattle.lines.specs.Words.{all_rows, code, end_text}
use Rattle.lines.specs.Machine.{rows_of, opened, scan}
use Rattle.lines.proofs.Runs.{scan_over, scan_at}
use Rattle.scripts.specs.Numbers.{after_end}
use Rattle.scripts.proofs.number.scanned.Goals as goal

pub returns-then-word-gt-ROOM : goal.returns-then-word-gt-ROOM
unfolding after_end
returns-then-word-gt-ROOM c =
    sym (scan_over all_rows c.args.word.now 16 (Start (opened (code 0 end_text) 0)) (omega arith))

pub loop-b-init : goal.loop-b-init
unfolding after_end
loop-b-init c =
    (omega arith, refl)

pub loop-b-preserved : goal.loop-b-preserved
unfolding rows_of
loop-b-preserved c =
    let l = c.loop-b in
    (omega arith, l.invariant.1 ∙ rw (c.within-s.ensures, c.advance.ensures) (scan_at all_rows l.room l.s l.b-index c.args.word.now (omega arith) (omega arith)))

pub returns : goal.returns
unfolding scan
returns c =
    let l = c.loop-b in
    sym (l.invariant.1 ∙ rw (drop_of_length-le c.args.word.now {i = l.b-index} (omega arith)))
