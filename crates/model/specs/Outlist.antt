-- The outlist of partition p: the foreign names that fields of p's objects in use hold, in order and without repeats. As a definition that computes, and as
-- what it says.
use Rattle.std.specs.Prelude.{ℕ, ◌+◌, ◌*◌, ◌/◌, ◌%◌, ◌≤◌, ◌<◌, ◌≡◌, Bool, cond, ◌≢◌, get_or, set, replicate, length}
use Rattle.loops.specs.Loop.{both, each}
use Rattle.kinds.specs.Names.{radix, most_places, most_names}
use Rattle.kinds.specs.Answers.{no_names}
use Rattle.kinds.specs.declared.Outlist.{Outlist}
use Rattle.model.specs.Image.{Image, state, field, get, place_of, part_of, abroad}
use Rattle.model.specs.Acts.{used}
use Rattle.model.specs.Questions.{Bits, has_bit, add_bit, collect}

-- of p's 4·S fields, number f is field f % 4 of slot f / 4: whether it is an object's and leads out of p, and where to
abbrev pub word_out : ℕ → ℕ → Image → ℕ → ℕ
word_out S p img f = get img (field (p * S + f / 4) (f % 4))

unfoldable pub goes_out : ℕ → ℕ → Image → ℕ → Bool
goes_out S p img f = both (used img (p * S + f / 4)) (abroad S (p * S + f / 4) (word_out S p img f))

unfoldable pub goes_to : ℕ → ℕ → Image → ℕ → ℕ
goes_to S p img f = place_of S (word_out S p img f)

-- one field
abbrev pub out_one : ℕ → ℕ → Image → Bits → ℕ → Bits
out_one S p img b f = cond (goes_out S p img f) (add_bit b (goes_to S p img f)) b

-- the places that p's fields name outside p
unfoldable pub out_bits : ℕ → ℕ → Image → Bits
out_bits S p img = collect (4 * S) (goes_out S p img) (goes_to S p img) (replicate most_places 0)

-- the word of the name of a place
unfoldable pub name_at : ℕ → ℕ → ℕ
name_at S i = i / S * radix + i % S + 1

-- a name at the list's end
abbrev pub note_name : Outlist → ℕ → Outlist
note_name o w = record { number = o.number + 1; names = set o.names o.number w }

abbrev pub name_one : ℕ → Bits → Outlist → ℕ → Outlist
name_one S bits o i = cond (has_bit bits i) (note_name o (name_at S i)) o

-- the names of n places that are in a set, in order
unfoldable pub list_names : ℕ → ℕ → Bits → Outlist
list_names n S bits = each n (name_one S bits) no_names

unfoldable pub outlist : ℕ → ℕ → ℕ → Image → Outlist
outlist P S p img = list_names (P * S) S (out_bits S p img)

-- field k of the object at j, an object of p in use, holds the foreign name w
pub record HoldsOut (S p : ℕ) (x : Image) (j k w : ℕ) : Type 0 where
  pub own : part_of S j ≡ p
  pub in_use : get x (state j) ≢ 0
  pub number : k < 4
  pub word : get x (field j k) ≡ w
  pub some : w ≢ 0
  pub foreign : part_of S (place_of S w) ≢ p

-- o is the outlist of p: in order, without repeats, exactly the foreign names that fields of p's objects in use hold; at most 4·S of them, and 0 beyond
pub record Outlisted (S p : ℕ) (x : Image) (o : Outlist) : Type 0 where
  pub long : length o.names ≡ most_names
  pub few : o.number ≤ 4 * S
  pub ordered : (a b : ℕ) → a < b → b < o.number → get_or o.names a 0 < get_or o.names b 0
  pub held : (a : ℕ) → a < o.number → (j : ℕ) × (k : ℕ) × HoldsOut S p x j k (get_or o.names a 0)
  pub all : (j k w : ℕ) → HoldsOut S p x j k w → (a : ℕ) × (a < o.number) × (get_or o.names a 0 ≡ w)
  pub unused : (a : ℕ) → o.number ≤ a → get_or o.names a 0 ≡ 0
