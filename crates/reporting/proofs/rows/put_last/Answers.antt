-- `reporting::rows::put_last` meets its contract. Assumes nothing.
use Rattle.reporting.specs.Report.{spaced}
use Rattle.writer.proofs.Puts.{put_byte, put_then, put_length, room_first}
use lib.ListN.{length-append}
use mathlib.Core.List.{[], ◌∷◌}
use native.Mathlib.Omega.{arith}
use Rattle.reporting.proofs.rows.put_last.Goals as goal

pub put_spaced-next-requires : goal.put_spaced-next-requires
put_spaced-next-requires c =
    room_first (spaced c.args.n) (10 ∷ []) _ _ c.requires

pub bounds-out-next : goal.bounds-out-next
bounds-out-next c =
    let a = c.args in omega (arith, put_length c.put_spaced-next.ensures, c.put_spaced-next.ensures.next, length-append (spaced a.n) (10 ∷ []))

pub overflow_add-result : goal.overflow_add-result
overflow_add-result c =
    let a = c.args in omega (arith, put_length c.put_spaced-next.ensures, c.put_spaced-next.ensures.next, length-append (spaced a.n) (10 ∷ []))

pub returns : goal.returns
returns c =
    put_then c.put_spaced-next.ensures (put_byte _ _ 10)
