-- `reporting::rows::put_spaced` meets its contract. Assumes nothing.
use Rattle.reporting.specs.Report.{spaced}
use Rattle.writer.proofs.Puts.{put_byte, put_then}
use lib.ListN.{length-set}
use mathlib.Core.Path.{◌∙◌}
use native.Mathlib.Omega.{arith}
use Rattle.reporting.proofs.rows.put_spaced.Goals as goal

pub bounds-out-at : goal.bounds-out-at
unfolding spaced
bounds-out-at c =
    omega arith

pub put_number-requires : goal.put_number-requires
unfolding spaced
put_number-requires c =
    simp length-set (omega arith)

pub shape_of-out : goal.shape_of-out
shape_of-out c =
    c.put_number.auto.buf ∙ simp length-set

pub returns : goal.returns
unfolding spaced
returns c =
    put_then (put_byte _ _ 32) c.put_number.ensures
