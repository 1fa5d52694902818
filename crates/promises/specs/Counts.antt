-- What a count is: the number of fields of objects in other partitions that name the object, in words that can be checked field by field.
use Rattle.std.specs.Prelude.{ℕ, ◌*◌, ◌/◌, ◌%◌, ◌<◌, true, ◌≡◌, ◌≢◌}
use Rattle.loops.specs.Loop.{tally}
use Rattle.model.specs.Image.{Image, state, inlist, field, get, part_of}
use Rattle.model.specs.Chains.{Names, NamedAbroad}
use Rattle.model.specs.Sound.{points}
use Rattle.promises.specs.Effects.{Exactly}

-- field k of the object at j, an object in use of another partition, names the object at i
pub record NamedFrom (S : ℕ) (x : Image) (i j k : ℕ) : Type 0 where
  pub in_use : get x (state j) ≢ 0
  pub names : Names S x (field j k) i
  pub foreign : part_of S j ≢ part_of S i

-- the counts of n places
pub record Counts (n S : ℕ) (x : Image) : Type 0 where
  -- a count is the number of fields that pass a test, field k of place j being number 4·j + k
  pub number : (i : ℕ) → i < n → get x (inlist i) ≡ tally (4 * n) (λ f. points S (f / 4) (get x (field (f / 4) (f % 4))) i)
  -- a field passes it exactly where it is one of an object in another partition and names the object at i
  pub test : (i j k : ℕ) → j < n → k < 4 → Exactly (points S j (get x (field j k)) i ≡ true) (NamedFrom S x i j k)
  -- so a count is not 0 exactly where there is such a field
  pub some : (i : ℕ) → i < n → Exactly (get x (inlist i) ≢ 0) (NamedAbroad n S x i)
