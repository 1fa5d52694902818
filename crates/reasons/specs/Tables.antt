-- The tables of the queue of `explain`: the first n of `list` are the places that are met, and `rows` has for each place 1 + the row in which it was
-- met, or 0.
use Rattle.std.specs.Prelude.{ℕ, ◌≡◌, Bool, List, ltb, length, get_or}
use Rattle.loops.specs.Loop.{tally}
use Rattle.kinds.specs.Names.{most_places}

abbrev pub is_met : List ℕ → ℕ → Bool
is_met rows j = ltb 0 (get_or rows j 0)

-- there is room for all places, and as many are met as are counted
pub record Tables (rows list : List ℕ) (n : ℕ) : Type 0 where
  pub wide : length rows ≡ most_places
  pub long : length list ≡ most_places
  pub counted : n ≡ tally most_places (is_met rows)
