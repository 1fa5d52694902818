-- `reporting::rows::put_toolong` meets its contract. Assumes nothing.
use Rattle.reporting.specs.Report.{row}
use Rattle.reporting.proofs.rows.put_toolong.Goals as goal

pub returns : goal.returns
unfolding row
returns c =
    c.put_text.ensures
