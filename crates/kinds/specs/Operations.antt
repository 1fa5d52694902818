-- Operations by their numbers, and those of the paper's example.
use Rattle.std.specs.Prelude.{ℕ, List, [], ◌∷◌}
use Rattle.kinds.specs.Names.{named}
use Rattle.std.specs.Prelude.{None, Some}
use Rattle.kinds.specs.declared.Operation.{Operation}
use Rattle.kinds.specs.declared.Operation.TheVariants.{New, Set, Val, Root}

abbrev pub new : ℕ → ℕ → ℕ → Operation
new p s v = New (named p s) v

abbrev pub set_to : ℕ → ℕ → ℕ → ℕ → ℕ → Operation
set_to p s k q t = Set (named p s) k (Some (named q t))

abbrev pub val : ℕ → ℕ → ℕ → Operation
val p s v = Val (named p s) v

abbrev pub root_to : ℕ → ℕ → ℕ → Operation
root_to r q t = Root r (Some (named q t))

abbrev pub unroot : ℕ → Operation
unroot r = Root r None

-- the paper's log: three objects in a chain from root 0
abbrev pub three : List Operation
three = new 0 0 10 ∷ new 1 0 20 ∷ new 0 1 30 ∷ set_to 0 0 0 1 0 ∷ set_to 1 0 0 0 1 ∷ root_to 0 0 0 ∷ []
