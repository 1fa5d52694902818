-- `locals::mark_out` meets its contract. Assumes nothing.
use Rattle.locals.proofs.Outing.{Naming, out_free, out_nothing, out_place, out_own, out_far}
use Rattle.locals.proofs.Owning.{slot_small}
use Rattle.image.proofs.Within.{has_word}
use mathlib.Core.Path.{sym, ◌∙◌}
use native.Mathlib.Omega.{arith}
use Rattle.locals.proofs.mark_out.Goals as goal
use Rattle.locals.proofs.mark_out.Goals.{After-part_of-q}

naming : (c : After-part_of-q) → let a = c.args in Naming a.p a.s a.img.now a.t a.f a.bits.now c.field_at-w.result c.place_of-i.result c.part_of-q.result
naming c =
    record {
      holder = c.requires;
      some = λ z. c.if-state_at-eq0.false (c.state_at.ensures ∙ z);
      read = c.field_at-w.ensures;
      refers = c.if-w-eq0.false;
      named = c.place_of-i.ensures;
      part = c.part_of-q.ensures;
    }

pub state_at-requires : goal.state_at-requires
state_at-requires c = has_word _ _ _ c.requires.place.within _ (slot_small c.requires.place)

pub returns-then-state_at-eq0 : goal.returns-then-state_at-eq0
returns-then-state_at-eq0 c = out_free c.requires (sym c.state_at.ensures ∙ c.if-state_at-eq0.true)

pub field_at-w-requires : goal.field_at-w-requires
field_at-w-requires c = let h = c.requires.place in has_word _ _ _ h.within _ (slot_small h, omega arith)

pub returns-then-w-eq0 : goal.returns-then-w-eq0
returns-then-w-eq0 c =
    out_nothing c.requires (λ z. c.if-state_at-eq0.false (c.state_at.ensures ∙ z)) (sym c.field_at-w.ensures ∙ c.if-w-eq0.true)

pub returns-then-q-t : goal.returns-then-q-t
returns-then-q-t c = out_own (naming (goal.at.returns-then-q-t c).After-part_of-q) c.if-q-t.true

pub offset_bounds-bits-i : goal.offset_bounds-bits-i
offset_bounds-bits-i c = omega (arith, out_place (naming (goal.at.offset_bounds-bits-i c).After-part_of-q))

pub bounds-bits-i : goal.bounds-bits-i
bounds-bits-i c = out_place (naming (goal.at.bounds-bits-i c).After-part_of-q)

pub returns : goal.returns
returns c = out_far (naming (goal.at.returns c).After-part_of-q) c.if-q-t.false
