-- `todo::Notes::enter` meets its contract. Assumes nothing.
use Rattle.todo.proofs.Noting.{noted_fit, more_none, enter_old, enter_room, enter_noted, enter_longer}
use mathlib.Core.Path.{refl}
use Rattle.model.specs.Questions.{add_bit}
use native.Mathlib.Omega.{arith}
use Rattle.todo.proofs.Notes.enter.Goals as goal

pub returns-then-self-j-eq1 : goal.returns-then-self-j-eq1
returns-then-self-j-eq1 c =
    (enter_old _ _ (omega arith), more_none _)

pub offset_bounds-self-j-2 : goal.offset_bounds-self-j-2
offset_bounds-self-j-2 c = omega (arith, noted_fit c.args.self.now.noted)

pub bounds-self-j-2 : goal.bounds-self-j-2
bounds-self-j-2 c = omega (arith, noted_fit c.args.self.now.noted)

pub overflow_cast-self : goal.overflow_cast-self
overflow_cast-self c = omega (arith, noted_fit c.args.self.now.noted)

pub offset_bounds-self-self : goal.offset_bounds-self-self
offset_bounds-self-self c = omega (arith, enter_room c.args.self.now.noted _ c.requires c.if-self-j-eq1.false)

pub bounds-self-self : goal.bounds-self-self
bounds-self-self c = omega (arith, enter_room c.args.self.now.noted _ c.requires c.if-self-j-eq1.false)

pub overflow_add-self : goal.overflow_add-self
overflow_add-self c = omega (arith, enter_room c.args.self.now.noted _ c.requires c.if-self-j-eq1.false)

pub invariant_of-self : goal.invariant_of-self
invariant_of-self c = record { noted = enter_noted c.args.self.now.noted _ c.requires c.if-self-j-eq1.false }

pub returns : goal.returns
unfolding add_bit
returns c = (refl, record { lo_same = refl; n_same = refl; longer = enter_longer c.args.self.now.noted _ c.requires c.if-self-j-eq1.false })
