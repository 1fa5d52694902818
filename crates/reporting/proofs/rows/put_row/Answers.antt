-- `reporting::rows::put_row` meets its contract. Assumes nothing.
use lib.ListN.{length}
use Rattle.reporting.specs.Report.{ending, row}
use Rattle.writer.proofs.Puts.{put_then, room_first, room_then}
use mathlib.Core.List.{[], ◌∷◌}
use Rattle.reporting.proofs.rows.put_row.Goals as goal

pub put_text-next-requires : goal.put_text-next-requires
unfolding row
put_text-next-requires c =
    let a = c.args in room_first a.word.now (ending (a.n ∷ [])) a.at (length a.out.now) c.requires

pub put_last-requires : goal.put_last-requires
unfolding row
put_last-requires c =
    room_then c.put_text-next.ensures (ending (c.args.n ∷ [])) c.requires

pub returns : goal.returns
unfolding row
returns c =
    put_then c.put_text-next.ensures c.put_last.ensures
