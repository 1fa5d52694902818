-- `image::count_at` meets its contract. Assumes nothing.
use Prim.Native.Nat.{◌*◌, ◌^◌, ◌≤◌, ◌<◌}
use native.Mathlib.Nat.{div-mul-le_self}
use native.Mathlib.Omega.{arith}
use Rattle.model.specs.Image.{part_of}
use Rattle.image.proofs.Within.{word_most}
use Rattle.image.proofs.Counts.{at_nothing, at_near, at_far}
use Rattle.std.proofs.lemmas.Grind.{common_steps}
use Rattle.image.proofs.count_at.Goals as goal
use Rattle.image.proofs.count_at.Goals.{After-part_of-q}

small : (c : After-part_of-q) → c.place_of-t.result < 2 ^ 33
small c = let a = c.args in rw c.place_of-t.ensures (word_most a.s a.w c.requires.1 (omega arith))

-- the first place of its partition is not above it
low : (c : After-part_of-q) → c.part_of-q.result * c.args.s ≤ c.place_of-t.result
unfolding part_of
low c = rw (c.part_of-q.ensures, c.place_of-t.ensures) (div-mul-le_self _ _)

pub returns-then-w-eq0 : goal.returns-then-w-eq0
returns-then-w-eq0 c = at_nothing _ _ _ c.if-w-eq0.true

pub overflow_mul-lo : goal.overflow_mul-lo
overflow_mul-lo c = let d = (goal.at.overflow_mul-lo c).After-part_of-q in omega (arith, small d, low d)

pub overflow_add-lo : goal.overflow_add-lo
overflow_add-lo c = let d = (goal.at.overflow_add-lo c).After-part_of-q in omega (arith, small d, low d)

pub returns-then-contains : goal.returns-then-contains
returns-then-contains c =
    at_near _ _ _ _ _ c.requires.0 c.if-w-eq0.false c.place_of-t.ensures c.part_of-q.ensures (grind (arith, common_steps)) (grind (arith, common_steps))

pub overflow_mul-result : goal.overflow_mul-result
overflow_mul-result c = omega (arith, small (goal.at.overflow_mul-result c).After-part_of-q)

pub overflow_add-result : goal.overflow_add-result
overflow_add-result c = omega (arith, small (goal.at.overflow_add-result c).After-part_of-q)

pub overflow_add-result-2 : goal.overflow_add-result-2
overflow_add-result-2 c = omega (arith, small (goal.at.overflow_add-result-2 c).After-part_of-q)

pub returns : goal.returns
returns c =
    at_far _ _ _ _ _ c.requires.0 c.if-w-eq0.false c.place_of-t.ensures c.part_of-q.ensures (λ a b. grind (arith, common_steps))
