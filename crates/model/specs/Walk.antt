-- A walk: a set spread with a list of places still to visit, once for any set, edges and finite list of places (as in Spread).
use Rattle.std.specs.Prelude.{ℕ, ◌≤◌, ◌<◌, ◌≡◌, Bool, true, cond, List, length, get_or}
use Rattle.loops.specs.Loop.{each, tally}

-- a place is visited: each of its edges is followed
module _ {X : Type 0} (add : X → ℕ → X) (edge : X → ℕ → ℕ → Bool) (target : X → ℕ → ℕ → ℕ) (K : ℕ) where
  unfoldable pub visit : X → ℕ → X
  visit x i = each K (λ y k. cond (edge y i k) (add y (target y i k)) y) x

-- the list of a walk over the places at 0, .., at (n - 1): its first m are those of them that are in the set, each once
-- (m is their number, and each is listed)
pub record Todo {X : Type 0} (has : X → ℕ → Bool) (at : ℕ → ℕ) (n : ℕ) (x : X) (list : List ℕ) (m : ℕ) : Type 0 where
  pub room : n ≤ length list
  pub counted : m ≡ tally n (λ j. has x (at j))
  pub listed : (j : ℕ) → j < n → has x (at j) ≡ true → (i : ℕ) × (i < m) × (get_or list i 0 ≡ at j)
  pub held : (i : ℕ) → i < m → (j : ℕ) × (j < n) × (at j ≡ get_or list i 0) × (has x (at j) ≡ true)

-- a list grows at its end: what stood in it stays where it was
pub record Longer (list : List ℕ) (m : ℕ) (list' : List ℕ) (m' : ℕ) : Type 0 where
  pub more : m ≤ m'
  pub kept : (i : ℕ) → i < m → get_or list' i 0 ≡ get_or list i 0
