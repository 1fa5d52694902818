-- `reporting::rows::put_refused` meets its contract. Assumes nothing.
use Rattle.reporting.proofs.Texts.{row_room, row_put}
use Rattle.reporting.specs.Report.{refused_text}
use Rattle.writer.proofs.Puts.{put_then}
use native.Mathlib.Omega.{arith}
use Rattle.reporting.proofs.rows.put_refused.Goals as goal

pub put_row-a-requires : goal.put_row-a-requires
put_row-a-requires c =
    row_room _ _ _ _ (omega arith)

pub put_row-c-requires : goal.put_row-c-requires
put_row-c-requires c =
    let p = row_put _ _ c.put_row-a.ensures in row_room _ _ _ _ (omega (arith, p.0, p.1))

pub put_row-requires : goal.put_row-requires
put_row-requires c =
    let p = row_put _ _ c.put_row-a.ensures in
    let q = row_put _ _ c.put_row-c.ensures in
    row_room _ _ _ _ (omega (arith, p.0, p.1, q.0, q.1))

pub returns : goal.returns
unfolding refused_text
returns c =
    put_then c.put_row-a.ensures (put_then c.put_row-c.ensures c.put_row.ensures)
