-- `reporting::rows::put_kept` meets its contract. Assumes nothing.
use Rattle.reporting.proofs.Texts.{row_room, row_put, places_most}
use Rattle.reporting.specs.Report.{kept_text}
use Rattle.writer.proofs.Puts.{put_then}
use Rattle.model.proofs.Keys.{has}
use Rattle.model.specs.Image.{phase}
use native.Mathlib.Omega.{arith}
use Rattle.reporting.proofs.rows.put_kept.Goals as goal

pub put_row-a-requires : goal.put_row-a-requires
put_row-a-requires c =
    row_room _ _ _ _ (omega arith)

pub put_row-b-requires : goal.put_row-b-requires
put_row-b-requires c =
    let p = row_put _ _ c.put_row-a.ensures in row_room _ _ _ _ (omega (arith, p.0, p.1))

pub head_at-phase-requires : goal.head_at-phase-requires
head_at-phase-requires c =
    has _ _ c.requires.2 phase (omega arith)

pub put_row-c-requires : goal.put_row-c-requires
put_row-c-requires c =
    let p = row_put _ _ c.put_row-a.ensures in
    let q = row_put _ _ c.put_row-b.ensures in
    row_room _ _ _ _ (omega (arith, p.0, p.1, q.0, q.1))

pub overflow_mul-p : goal.overflow_mul-p
overflow_mul-p c =
    let a = c.args in
    omega (arith, (places_most a.p a.s (omega arith) (omega arith)).1)

pub put_objects-requires : goal.put_objects-requires
put_objects-requires c =
    let p = row_put _ _ c.put_row-a.ensures in
    let q = row_put _ _ c.put_row-b.ensures in
    let r = row_put _ _ c.put_row-c.ensures in
    let m = places_most c.args.p c.args.s (omega arith) (omega arith) in
    (omega arith, m.0, c.requires.2, omega (arith, p.0, p.1, q.0, q.1, r.0, r.1, m.1))

pub returns : goal.returns
unfolding kept_text
returns c =
    rw (← c.head_at-phase.ensures) (put_then c.put_row-a.ensures (put_then c.put_row-b.ensures (put_then c.put_row-c.ensures c.put_objects.ensures)))
