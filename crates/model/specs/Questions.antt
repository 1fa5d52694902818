-- The questions: read an object, and ask whether a root or a handle leads to it. Both leave the image as found.
use Rattle.std.specs.Prelude.{ℕ, ◌*◌, Bool, not, cond, List, [], ◌∷◌, get_or, set, replicate, eqb}
use Rattle.loops.specs.Loop.{each}
use Rattle.kinds.specs.Names.{target_of}
use Rattle.kinds.specs.declared.Field.{Field}
use Rattle.kinds.specs.declared.Record.{Record}
use Rattle.model.specs.Image.{Image, Key, anchor, payload, field, anchors, get, place_of}
use Rattle.model.specs.Spread.{spread}

abbrev pub field_of : Image → ℕ → ℕ → Field
field_of img j k = record { target = target_of (get img (field j k)) }

-- READ: the payload beside the four fields
unfoldable pub read_of : Image → ℕ → Record
read_of img j = record { payload = get img (payload j); fields = field_of img j 0 ∷ field_of img j 1 ∷ field_of img j 2 ∷ field_of img j 3 ∷ [] }

-- a set of places, as a list of bits
abbrev pub Bits : Type 0
Bits = List ℕ

unfoldable pub has_bit : Bits → ℕ → Bool
has_bit b j = eqb (get_or b j 0) 1

unfoldable pub add_bit : Bits → ℕ → Bits
add_bit b j = set b j 1

-- the places at r, for the r below m that pass the test, are added
unfoldable pub collect : ℕ → (ℕ → Bool) → (ℕ → ℕ) → Bits → Bits
collect m test at b = each m (λ c r. cond (test r) (add_bit c (at r)) c) b

-- a root, a handle or a field holds an object, and at which place
abbrev pub held : Image → Key → Bool
held img κ = not (eqb (get img κ) 0)

abbrev pub held_at : ℕ → Image → Key → ℕ
held_at S img κ = place_of S (get img κ)

-- ASK: the places that roots and handles name, and from there all that fields lead to
unfoldable pub anchor_bits : ℕ → Image → ℕ → Bits
anchor_bits S img n = collect anchors (λ a. held img (anchor a)) (λ a. held_at S img (anchor a)) (replicate n 0)

unfoldable pub reached_bits : ℕ → ℕ → Image → Bits
reached_bits P S img =
    spread has_bit add_bit (λ b j k. held img (field j k)) (λ b j k. held_at S img (field j k)) (λ j. j) (P * S) 4
    (anchor_bits S img (P * S))

unfoldable pub ask : ℕ → ℕ → Image → ℕ → Bool
ask P S img j = has_bit (reached_bits P S img) j
