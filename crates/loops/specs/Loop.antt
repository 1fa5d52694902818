-- Loops as definitions, for any state, and the tests that they are made of.
use Rattle.std.specs.Prelude.{ℕ, zero, suc, ◌+◌, Bool, true, false, cond}

-- both tests pass
abbrev pub both : Bool → Bool → Bool
both true b = b
both false b = false

-- 1 where the test passes, else 0
abbrev pub bit : Bool → ℕ
bit true = 1
bit false = 0

module _ {X : Type 0} where
  -- f at 0, 1, .., n - 1, in this order
  unfoldable pub each : ℕ → (X → ℕ → X) → X → X
  each zero f x = x
  each (suc n) f x = f (each n f x) n

  -- f n times
  unfoldable pub again : ℕ → (X → X) → X → X
  again zero f x = x
  again (suc n) f x = again n f (f x)

-- how many of 0, 1, .., n - 1 pass
unfoldable pub tally : ℕ → (ℕ → Bool) → ℕ
tally zero f = 0
tally (suc n) f = tally n f + bit (f n)

-- all of 0, 1, .., n - 1 pass
unfoldable pub every : ℕ → (ℕ → Bool) → Bool
every zero f = true
every (suc n) f = both (every n f) (f n)

-- the lowest of i, i + 1, .., i + n - 1 that passes, or i + n
unfoldable pub first : ℕ → ℕ → (ℕ → Bool) → ℕ
first zero i f = i
first (suc n) i f = cond (f i) i (first n (suc i) f)
