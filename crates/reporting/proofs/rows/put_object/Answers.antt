-- `reporting::rows::put_object` meets its contract. Assumes nothing.
use Rattle.reporting.specs.Report.{object_word, spaced, ending, row}
use Rattle.writer.proofs.Puts.{put_then, room_first, room_then}
use mathlib.Core.List.{[], ◌∷◌}
use Rattle.reporting.proofs.rows.put_object.Goals as goal

pub put_text-a-requires : goal.put_text-a-requires
unfolding row
put_text-a-requires c =
    let a = c.args in room_first object_word (ending (a.p ∷ a.s ∷ a.v ∷ [])) _ _ c.requires

pub put_spaced-b-requires : goal.put_spaced-b-requires
unfolding row
put_spaced-b-requires c =
    let a = c.args in
    room_first (spaced a.p) (ending (a.s ∷ a.v ∷ [])) _ _ (room_then c.put_text-a.ensures (ending (a.p ∷ a.s ∷ a.v ∷ [])) c.requires)

pub put_spaced-c-requires : goal.put_spaced-c-requires
unfolding row
put_spaced-c-requires c =
    let a = c.args in
    room_first (spaced a.s) (ending (a.v ∷ [])) _ _
    (room_then c.put_spaced-b.ensures (ending (a.s ∷ a.v ∷ [])) (room_then c.put_text-a.ensures (ending (a.p ∷ a.s ∷ a.v ∷ [])) c.requires))

pub put_last-requires : goal.put_last-requires
unfolding row
put_last-requires c =
    let a = c.args in
    room_then c.put_spaced-c.ensures (ending (a.v ∷ []))
    (room_then c.put_spaced-b.ensures (ending (a.s ∷ a.v ∷ [])) (room_then c.put_text-a.ensures (ending (a.p ∷ a.s ∷ a.v ∷ [])) c.requires))

pub returns : goal.returns
unfolding row
returns c =
    put_then c.put_text-a.ensures (put_then c.put_spaced-b.ensures (put_then c.put_spaced-c.ensures c.put_last.ensures))
