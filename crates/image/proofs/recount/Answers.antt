-- `image::recount` meets its contract. Assumes nothing.
use native.Mathlib.Omega.{arith}
use Rattle.image.proofs.Counts.{at_in, at_fits, unchanged, changed_at}
use Rattle.image.proofs.recount.Goals as goal

pub offset_bounds-img-at : goal.offset_bounds-img-at
offset_bounds-img-at g c = omega (arith, at_in c.requires _ c.in-Some.ensures)

pub bounds-img-at : goal.bounds-img-at
bounds-img-at g c = at_in c.requires _ c.in-Some.ensures

pub change-requires : goal.change-requires
change-requires g c = at_fits c.requires _ c.in-Some.ensures

pub offset_bounds-img-at-in-Some : goal.offset_bounds-img-at-in-Some
offset_bounds-img-at-in-Some g c = omega (arith, at_in c.requires _ c.in-Some.ensures)

pub bounds-img-at-in-Some : goal.bounds-img-at-in-Some
bounds-img-at-in-Some g c = at_in c.requires _ c.in-Some.ensures

pub returns-in-Some : goal.returns-in-Some
returns-in-Some g c = changed_at _ _ _ _ _ _ c.in-Some.ensures (at_in c.requires _ c.in-Some.ensures) c.change.ensures

pub returns-in_default : goal.returns-in_default
returns-in_default g c = unchanged _ _ _ _ c.in_default.ensures
