-- `reporting::put_report` meets its contract. Assumes nothing.
use Rattle.reporting.proofs.Reporting.{report_long, words_fit, words_lent, lent_whole, lent_report, none_report}
use Prim.Native.Nat.{ℕ}
use mathlib.Core.Path.{sym}
use lib.ListN.{replicate, length-replicate}
use Rattle.reporting.specs.Report.{most_words}
use Rattle.reporting.proofs.put_report.Goals as goal

pub returns-then-log-gt-MOST : goal.returns-then-log-gt-MOST
returns-then-log-gt-MOST c =
    rw (← report_long _ c.if-log-gt-MOST.true) c.put_toolong.ensures

pub slice_bounds-img-end : goal.slice_bounds-img-end
slice_bounds-img-end c =
    words_fit c.args.log.now c.in-Some.ensures (replicate most_words 0) (length-replicate {A = ℕ} most_words 0)

pub slice_bounds-put_recovered-end : goal.slice_bounds-put_recovered-end
slice_bounds-put_recovered-end c =
    sym (words_lent c.args.log.now c.in-Some.ensures (replicate most_words 0) (length-replicate {A = ℕ} most_words 0))

pub put_recovered-requires-clause-p_le_most_partitions : goal.put_recovered-requires-clause-p_le_most_partitions
put_recovered-requires-clause-p_le_most_partitions c =
    lent_whole c.args.log.now c.in-Some.ensures (replicate most_words 0) (length-replicate {A = ℕ} most_words 0)

pub returns-in-Some : goal.returns-in-Some
returns-in-Some c =
    rw (← lent_report c.args.log.now c.in-Some.ensures (replicate most_words 0) (length-replicate {A = ℕ} most_words 0) c.if-log-gt-MOST.false) c.put_recovered.ensures

pub returns-in-None : goal.returns-in-None
returns-in-None c =
    rw (← none_report c.args.log.now c.in-None.ensures c.if-log-gt-MOST.false) c.put_recovered-in-None.ensures
