-- A local collection of p, slot by slot, over bits of as many places as there can be.
use Rattle.std.specs.Prelude.{ℕ, ◌+◌, ◌*◌, ◌<◌, ◌≡◌, Bool, not, cond}
use Rattle.loops.specs.Loop.{both}
use Rattle.model.specs.Image.{Image, inlist}
use Rattle.model.specs.Acts.{used, clear, local_bits}
use Rattle.model.specs.Questions.{Bits, has_bit, add_bit, held}
use Rattle.image.specs.Within.{Within}
use Rattle.todo.specs.declared.Notes.{Notes}

-- slot s is one of partition p's
pub record SlotOf (P S : ℕ) (img : Image) (p s : ℕ) : Type 0 where
  pub within : Within P S img
  pub part : p < P
  pub slot : s < S

-- the places that notes are of are partition p's
abbrev pub NotesOf : ℕ → ℕ → Notes → Type 0
NotesOf S p notes = (notes.lo ≡ p * S) × (notes.n ≡ S)

-- the object in slot s of p, if its count is above 0, is noted
abbrev pub named_one : ℕ → ℕ → Image → Bits → ℕ → Bits
named_one S p img b s = cond (held img (inlist (p * S + s))) (add_bit b (p * S + s)) b

-- exactly the places that stay are noted
unfoldable pub Kept : ℕ → ℕ → ℕ → Image → Bits → Type 0
Kept P S p img marks = (j : ℕ) → has_bit marks j ≡ has_bit (local_bits P S p img) j

-- slot s of p is in use and not noted
abbrev pub lost_at : ℕ → ℕ → Image → Bits → ℕ → Bool
lost_at S p img marks s = both (used img (p * S + s)) (not (has_bit marks (p * S + s)))

-- a place that is not noted becomes free
abbrev pub settle_of : ℕ → Bits → Image → ℕ → Image
settle_of S marks x j = cond (has_bit marks j) x (clear S x j)
