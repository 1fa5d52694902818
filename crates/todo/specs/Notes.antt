-- Places noted: `marks` says which of the n places from lo on are noted, and the first m of `list` are these places in the order of their noting.
use Rattle.std.specs.Prelude.{ℕ, ◌+◌, ◌≤◌, ◌≡◌, Bool, not, cond, List, eqb, ltb, length}
use Rattle.loops.specs.Loop.{both, each}
use Rattle.kinds.specs.Names.{most_places}
use Rattle.model.specs.Image.{Image, anchor, field, anchors, get, place_of}
use Rattle.model.specs.Spread.{spread}
use Rattle.model.specs.Walk.{Todo}
use Rattle.model.specs.Acts.{refers, target}
use Rattle.model.specs.Questions.{Bits, has_bit, add_bit}

-- one of the n places from lo on
abbrev pub among : ℕ → ℕ → ℕ → Bool
among lo n j = both (not (ltb j lo)) (ltb j (lo + n))

-- what a word names is noted, if that is one of them
unfoldable pub note_word : ℕ → ℕ → ℕ → ℕ → Bits → Bits
note_word S lo n w b = cond (both (not (eqb w 0)) (among lo n (place_of S w))) (add_bit b (place_of S w)) b

-- the same of the roots and the handles
unfoldable pub note_anchors : ℕ → ℕ → ℕ → Image → Bits → Bits
note_anchors S lo n img b = each anchors (λ c a. note_word S lo n (get img (anchor a)) c) b

-- the same of the four fields of the object at j
unfoldable pub note_fields : ℕ → ℕ → ℕ → Image → ℕ → Bits → Bits
note_fields S lo n img j b = each 4 (λ c k. note_word S lo n (get img (field j k)) c) b

-- what chains of references among these places lead to, from those noted
unfoldable pub spread_among : ℕ → ℕ → ℕ → Image → Bits → Bits
spread_among S lo n img b = spread has_bit add_bit (λ c. refers S (among lo n) img) (λ c. target S img) (λ i. lo + i) n 4 b

-- as many marks, and as much room in the list, as there can be places; the list has those of the n places that are marked
pub record Noted (lo n : ℕ) (marks : Bits) (list : List ℕ) (m : ℕ) : Type 0 where
  pub wide : length marks ≡ most_places
  pub long : length list ≡ most_places
  pub fit : lo + n ≤ most_places
  pub todo : Todo has_bit (λ i. lo + i) n marks list m
