-- What the acts need of an image: its length is that of P partitions of S slots, every reference leads to one of its places, and its counts
-- are right (so that none is above 4·P·S, and none is 0 where a reference goes); and what a count needs to fall and to rise.
use Rattle.std.specs.Prelude.{ℕ, ◌*◌, ◌≤◌, ◌<◌, ◌≡◌, true, false, cond, ◌≢◌, Option, Some, None}
use Rattle.kinds.specs.Names.{most_partitions, most_slots}
use Rattle.model.specs.Image.{Image, Key, inlist, addr, Has, Sized, get, put, place_of, abroad, Holder}
use Rattle.model.specs.Sound.{Limits, Right}

pub record Within (P S : ℕ) (x : Image) : Type 0 where
  pub limits : Limits P S
  pub long : Sized (P * S) x
  pub right : Right (P * S) S x
  pub refs : (κ : Key) → Holder (P * S) κ → get x κ ≢ 0 → place_of S (get x κ) < P * S

-- where the count stands of what the word w, in a field of the object at j, names in another partition, if it names something there
unfoldable pub count_at : ℕ → ℕ → ℕ → Option ℕ
count_at S j w = cond (abroad S j w) (Some (addr (inlist (place_of S w)))) None

-- what that count must be, if there is one, so that it can change
pub record Changes (Q : ℕ → Type 0) (S j w : ℕ) (x : Image) : Type 0 where
  pub some_slot : 0 < S
  pub wide : S ≤ most_slots
  pub inside : abroad S j w ≡ true → Has x (inlist (place_of S w))
  pub fits : abroad S j w ≡ true → Q (get x (inlist (place_of S w)))

-- it changes by the relation R, if there is one, and nothing else does
pub record Changed (R : ℕ → ℕ → Type 0) (S j w : ℕ) (x y : Image) : Type 0 where
  pub elsewhere : abroad S j w ≡ false → y ≡ x
  pub changed : abroad S j w ≡ true → R (get x (inlist (place_of S w))) (get y (inlist (place_of S w)))
  pub alone : abroad S j w ≡ true → y ≡ put x (inlist (place_of S w)) (get y (inlist (place_of S w)))

-- it can fall by one; it can rise by one
abbrev pub Loses : ℕ → ℕ → ℕ → Image → Type 0
Loses = Changes (λ c. 0 < c)

abbrev pub Gains : ℕ → ℕ → ℕ → Image → Type 0
Gains = Changes (λ c. c ≤ 4 * (most_partitions * most_slots))
