-- Spreading a set along edges, once for any set, edges and finite list of places.
-- A set is any x with a test `has` and a way to `add`; place i has K numbered edges, of which `edge x i k` says whether it is there and
-- `target x i k` where it leads. The places at 0, .., at (n - 1) are passed over in order, and n passes are made.
use Rattle.std.specs.Prelude.{ℕ, Bool, cond}
use Rattle.loops.specs.Loop.{each, again, both}

module _ {X : Type 0} (has : X → ℕ → Bool) (add : X → ℕ → X) (edge : X → ℕ → ℕ → Bool) (target : X → ℕ → ℕ → ℕ) (at : ℕ → ℕ) (n K : ℕ) where
  -- one edge of a place that is in the set
  unfoldable pub follow : X → ℕ → ℕ → X
  follow x i k = cond (both (has x i) (edge x i k)) (add x (target x i k)) x

  -- all edges of all places, in order
  unfoldable pub pass : X → X
  pass x = each n (λ y j. each K (λ z k. follow z (at j) k) y) x

  unfoldable pub spread : X → X
  spread x = again n pass x

-- the least set that has the start and, with a place, what its edges lead to
pub data Reach (Start : ℕ → Type 0) (Edge : ℕ → ℕ → Type 0) : ℕ → Type 0 where
  start : {i : ℕ} → Start i → Reach Start Edge i
  step : {i j : ℕ} → Reach Start Edge i → Edge i j → Reach Start Edge j
