-- A sweep: an image stays within its bounds while something is done at one number after the other. What the sweeps of open and close, with the
-- words put around them, and the end of a trace come to.
-- Assumes nothing.
use Prim.Native.Nat.{ℕ, ◌+◌, ◌*◌, ◌≤◌}
use mathlib.Core.Path.{◌≡◌, ◌∙◌}
use native.Mathlib.Omega.{arith}
use mathlib.Core.Logic.{◌≢◌}
use lib.Dec.{eqb}
use borrow.Author.Tests.{eq-eqb, ne_eqb}
use Rattle.loops.specs.Loop.{each, tally, bit}
use Rattle.loops.proofs.Loops.{tally_le}
use Rattle.loops.proofs.Turns.{each_none, each_more, each_done, tally_none, tally_more, tally_done}
use Rattle.kinds.specs.Names.{most_places}
use Rattle.model.specs.Image.{Image, flag, state, phase, count, allowance, get, put}
use Rattle.model.proofs.Keys.{has}
use Rattle.model.specs.Acts.{unmarked, unclean, mark_anchors, allow, settle, open_up, finish, shut, close_up}
use Rattle.image.specs.Within.{Within}
use Rattle.image.proofs.Within.{places, has_word}
use Rattle.collector.proofs.Bounds.{has_after}

-- after i numbers
pub record Swept (P S : ℕ) (f : Image → ℕ → Image) (x y : Image) (i : ℕ) : Type 0 where
  pub within : Within P S y
  pub done : y ≡ each i f x

module _ {P S : ℕ} {f : Image → ℕ → Image} {x : Image} where
  pub swept_first : Within P S x → Swept P S f x x 0
  swept_first w = record { within = w; done = each_none f x }

  module _ {y : Image} {i : ℕ} (h : Swept P S f x y i) where
    pub swept_more : {z : Image} → Within P S z → z ≡ f y i → Swept P S f x z (i + 1)
    swept_more w e = record { within = w; done = e ∙ each_more f x i y h.done }

    pub swept_done : (n : ℕ) → i ≤ n → n ≤ i → (y ≡ each n f x) × Within P S y
    swept_done n a b = (each_done f x n i y a b h.done, h.within)

-- no more objects are unmarked than there can be places
pub unmarked_few : {P S n : ℕ} {x : Image} → Within P S x → n ≡ unmarked (P * S) x → n ≤ most_places
unfolding unmarked
unmarked_few {P} {S} {x = x} w e = omega (arith, e, tally_le (P * S) (λ j. eqb (get x (state j)) 1), places w)

-- open, close and the end of a trace, image by image
module _ (P S : ℕ) (x : Image) {a b c d e : Image} where
  pub opens : {n : ℕ} → a ≡ put x phase 1 → b ≡ unclean a → c ≡ mark_anchors S b → n ≡ unmarked (P * S) c → d ≡ put c count 0
      → e ≡ put d allowance (P + n) → e ≡ open_up P S x
  unfolding open_up allow
  opens h₁ h₂ h₃ h₄ h₅ h₆ = rw (h₆, h₅, h₄, h₃, h₂, h₁)

  pub closes : a ≡ each (P * S) (settle S) x → b ≡ unclean a → c ≡ put b phase 0 → d ≡ put c count 0 → e ≡ put d allowance 0 → e ≡ close_up P S x
  unfolding close_up shut
  closes h₁ h₂ h₃ h₄ h₅ = rw (h₅, h₄, h₃, h₂, h₁)

pub finishes : (p : ℕ) (x : Image) {a b : Image} {n : ℕ} → n ≡ get x count → a ≡ put x (flag p) 1 → b ≡ put a count (n + 1) → b ≡ finish p x
unfolding finish
finishes p x h₁ h₂ h₃ = rw (h₃, h₂, h₁)

-- what the code of a sweep is proved by
pub ruleset sweeps = (has_word, has_after, places, swept_first, swept_more, swept_done, unmarked_few, opens, closes)

-- a count of the numbers at which a word is v
module _ (f : ℕ → ℕ) (v : ℕ) {n c : ℕ} (h : c ≡ tally n (λ i. eqb (f i) v)) where
  pub counted_one : f n ≡ v → c + 1 ≡ tally (n + 1) (λ i. eqb (f i) v)
  counted_one e = let b : bit (eqb (f n) v) ≡ 1 = rw (eq-eqb (f n) v e) in omega (arith, b, tally_more (λ i. eqb (f i) v) n c h)

  pub counted_none : f n ≢ v → c ≡ tally (n + 1) (λ i. eqb (f i) v)
  counted_none e = let b : bit (eqb (f n) v) ≡ 0 = rw (ne_eqb (f n) v e) in omega (arith, b, tally_more (λ i. eqb (f i) v) n c h)

-- what the code of a count is proved by
pub ruleset counts = (has, tally_none, tally_done, tally_le)
