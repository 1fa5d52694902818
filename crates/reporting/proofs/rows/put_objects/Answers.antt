-- `reporting::rows::put_objects` meets its contract. Assumes nothing.
-- The loop has put the objects of the first j places.
use Rattle.reporting.proofs.Texts.{put_more, room_more}
use Rattle.reporting.specs.Report.{objects}
use Rattle.writer.proofs.Puts.{put_none, put_length}
use Rattle.model.proofs.Keys.{has}
use Rattle.model.specs.Image.{state, payload}
use mathlib.Core.Path.{◌≡◌}
use native.Mathlib.Omega.{arith}
use borrow.Author.Rules.{rules}
use Rattle.reporting.proofs.rows.put_objects.Goals as goal

pub loop-j-init : goal.loop-j-init
unfolding objects
loop-j-init c =
    put_none _ _

pub put_place-next-requires : goal.put_place-next-requires
put_place-next-requires c =
    let less = c.loop-j-test.true in (
      omega arith,
      omega arith,
      has _ _ c.requires.2 (state _) less,
      has _ _ c.requires.2 (payload _) less,
      room_more _ _ _ c.loop-j.invariant c.args.n less c.requires.0 c.requires.1 c.requires.3,
    )

pub loop-j-preserved : goal.loop-j-preserved
loop-j-preserved c =
    put_more _ _ _ c.loop-j.invariant c.put_place-next.ensures

pub shape_of-out : goal.shape_of-out
shape_of-out c =
    put_length c.loop-j.invariant

pub returns : goal.returns
returns c =
    let e : c.loop-j.j ≡ c.args.n = search rules in
    rw (← e) c.loop-j.invariant
