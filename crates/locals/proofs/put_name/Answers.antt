-- `locals::put_name` meets its contract. Assumes nothing.
use Rattle.locals.proofs.Naming.{put_none, put_room, put_one}
use native.Mathlib.Omega.{arith}
use Rattle.locals.proofs.put_name.Goals as goal

pub returns-then-bits-i-ne1 : goal.returns-then-bits-i-ne1
returns-then-bits-i-ne1 c = put_none c.requires c.if-bits-i-ne1.true

pub offset_bounds-outlist-outlist : goal.offset_bounds-outlist-outlist
offset_bounds-outlist-outlist c = omega (arith, put_room c.requires c.if-bits-i-ne1.false)

pub bounds-outlist-outlist : goal.bounds-outlist-outlist
bounds-outlist-outlist c = put_room c.requires c.if-bits-i-ne1.false

pub overflow_add-outlist : goal.overflow_add-outlist
overflow_add-outlist c = omega (arith, put_room c.requires c.if-bits-i-ne1.false)

pub returns : goal.returns
returns c = put_one c.requires c.if-bits-i-ne1.false
