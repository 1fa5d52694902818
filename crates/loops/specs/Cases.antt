-- Tables of computed examples.
use Rattle.std.specs.Prelude.{ℕ, ◌≤◌, List, [], ◌∷◌, ◌≡◌}

-- a row of a table: what is computed and what it must be; or the same of every number from a to b
pub data Case : Type 1 where
  case : {A : Type 0} → A → A → Case
  from_to : {A : Type 0} → ℕ → ℕ → (ℕ → A) → A → Case

abbrev pub Agree : List Case → Type 0
Agree [] = Unit {0}
Agree (case is must ∷ rest) = (is ≡ must) × Agree rest
Agree (from_to a b is must ∷ rest) = ((k : ℕ) → a ≤ k → k ≤ b → is k ≡ must) × Agree rest
