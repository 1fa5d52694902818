-- `todo::Notes::spread` meets its contract. Assumes nothing. Of the list's places the first `at` are visited: `Spreading`, the theory of walks at work.
use Rattle.todo.proofs.Noting.{noted_most, more_none, more_then}
use Rattle.todo.proofs.Leading.{spreading_first, next_in, spreading_next, spreading_done}
use Rattle.std.specs.Coded.{le_prop}
use Rattle.std.proofs.Props.{props}
use mathlib.Core.Path.{refl}
use mathlib.Core.Logic.{∥∥₁_elim, ∥∥₁_map, ∥∥₁_prop}
use native.Mathlib.Omega.{arith}
use Rattle.todo.proofs.Notes.spread.Goals as goal

pub loop-at-init : goal.loop-at-init
loop-at-init c = (∥∥₁_map c.args.self.now.noted spreading_first, more_none _)

pub offset_bounds-self-at : goal.offset_bounds-self-at
offset_bounds-self-at c = omega (arith, noted_most c.loop-at.self.noted)

pub bounds-self-at : goal.bounds-self-at
bounds-self-at c = omega (arith, noted_most c.loop-at.self.noted)

pub visit-requires-clause-j_bound : goal.visit-requires-clause-j_bound
visit-requires-clause-j_bound c =
    ∥∥₁_elim c.loop-at.invariant.0 le_prop (λ s. omega (arith, next_in s (omega (arith, c.loop-at.invariant.1.longer.more)) _ refl))

pub loop-at-smaller : goal.loop-at-smaller
loop-at-smaller c = omega (arith, noted_most c.loop-at.self.noted)

pub loop-at-preserved : goal.loop-at-preserved
loop-at-preserved c =
    let m = c.loop-at.invariant.1 in
    let f = c.visit.ensures in (
      ∥∥₁_elim c.loop-at.invariant.0 ∥∥₁_prop (λ s. ∥∥₁_map c.visit.new.self.noted (spreading_next s (omega (arith, m.longer.more)) _ refl _ m f.1 f.0)),
      more_then m f.1,
    )

pub returns : goal.returns
returns c =
    (∥∥₁_elim c.loop-at.invariant.0 (search props) (λ s. ∥∥₁_elim c.args.self.now.noted (search props) (λ t. spreading_done s t.wide (omega arith))), c.loop-at.invariant.1)
