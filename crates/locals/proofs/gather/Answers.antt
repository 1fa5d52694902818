-- `locals::gather` meets its contract. Assumes nothing. After i turns the names of the first i places that are marked are put down (`Listed`).
use Rattle.model.proofs.Naming.{Listed, listed_none, listed_more, listed_room}
use Rattle.model.specs.Outlist.{list_names}
use Rattle.kinds.specs.Names.{most_places}
use Rattle.loops.proofs.Turns.{each_none, each_more, each_done}
use mathlib.Core.Path.{◌∙◌, sym, subst}
use Prim.Native.Nat.{◌<◌}
use native.Mathlib.Omega.{arith}
use Rattle.locals.proofs.gather.Goals as goal

pub loop-i-init : goal.loop-i-init
loop-i-init c = (c.no_names-outlist.ensures ∙ each_none _ _, rw c.no_names-outlist.ensures (listed_none _ _))

pub put_name-requires : goal.put_name-requires
put_name-requires c =
    let h = c.requires in
    let l = c.loop-i.invariant.1 in
    let small : c.loop-i.i < most_places = omega (arith, h.fit) in
    record {
      some_slot = h.limits.some_slot;
      place = omega (arith, small);
      wide = h.wide;
      long = l.long;
      room = λ e. listed_room _ h.limits.some_slot h.limits.slots_most _ h.few _ small _ l e;
    }

pub loop-i-preserved : goal.loop-i-preserved
loop-i-preserved c =
    let h = c.requires in
    let l = c.loop-i.invariant in
    let small : c.loop-i.i < most_places = omega (arith, h.fit) in (
      c.put_name.ensures ∙ each_more _ _ _ _ l.0,
      subst (Listed _ _ _) (sym c.put_name.ensures) (listed_more _ h.limits.some_slot h.limits.slots_most _ h.few _ small _ l.1),
    )

pub returns : goal.returns
unfolding list_names
returns c = each_done _ _ _ _ _ (omega arith) (omega arith) c.loop-i.invariant.0
