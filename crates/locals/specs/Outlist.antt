-- The outlist while its names are put down: what the code of the list asks.
use Rattle.std.specs.Prelude.{ℕ, ◌*◌, ◌/◌, ◌≤◌, ◌<◌, ◌≡◌, true, length}
use Rattle.loops.specs.Loop.{tally}
use Rattle.kinds.specs.Names.{most_places, most_names}
use Rattle.kinds.specs.declared.Outlist.{Outlist}
use Rattle.model.specs.Image.{Image}
use Rattle.model.specs.Questions.{Bits, has_bit}
use Rattle.model.specs.Sound.{Limits}
use Rattle.locals.specs.Slots.{SlotOf}

-- field f is one of partition p's, of which each object has four, and there are as many bits as there can be places
pub record FieldOf (P S : ℕ) (img : Image) (p f : ℕ) (bits : Bits) : Type 0 where
  pub place : SlotOf P S img p (f / 4)
  pub wide : length bits ≡ most_places

-- places in range, and room for the name of each that is marked
pub record Gathers (P S : ℕ) (bits : Bits) : Type 0 where
  pub limits : Limits P S
  pub fit : P * S ≤ most_places
  pub wide : length bits ≡ most_places
  pub few : tally most_places (has_bit bits) ≤ most_names

-- the same of one place
pub record Placed (S : ℕ) (bits : Bits) (i : ℕ) (o : Outlist) : Type 0 where
  pub some_slot : 0 < S
  pub place : i < most_places
  pub wide : length bits ≡ most_places
  pub long : length o.names ≡ most_names
  pub room : has_bit bits i ≡ true → o.number < most_names
