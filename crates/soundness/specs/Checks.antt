-- What the tests of soundness stand on: the shape of an image, and the tally of foreign references that the pass over the slots leaves.
use Rattle.std.specs.Prelude.{ℕ, ◌*◌, ◌/◌, ◌%◌, ◌<◌, ◌≡◌, Bool, true, List, length, get_or}
use Rattle.loops.specs.Loop.{tally}
use Rattle.kinds.specs.Names.{most_places}
use Rattle.model.specs.Image.{Image, Key, Sized, field, get, place_of, part_of}
use Rattle.model.specs.Sound.{Limits, points, ref_ok}

-- P and S are in their limits, and the length agrees with them
pub record Shaped (P S : ℕ) (x : Image) : Type 0 where
  pub limits : Limits P S
  pub long : Sized (P * S) x

-- the reference word at κ names the slot of partition q at place j, and that is in use
pub record NamesSlot (P S : ℕ) (x : Image) (κ : Key) (q j : ℕ) : Type 0 where
  pub sound : ref_ok P S x κ ≡ true
  pub partition : q ≡ part_of S j
  pub place : j ≡ place_of S (get x κ)
  pub inside : j < P * S

-- field number g of the row of all fields holds a foreign reference to i
abbrev pub pointing : ℕ → Image → ℕ → ℕ → Bool
pointing S x i g = points S (g / 4) (get x (field (g / 4) (g % 4))) i

-- the foreign references of the first f fields are tallied, by the place that they name
pub record Tallied (S : ℕ) (x : Image) (f : ℕ) (c : List ℕ) : Type 0 where
  pub long : length c ≡ most_places
  pub each : (i : ℕ) → i < most_places → get_or c i 0 ≡ tally f (pointing S x i)
