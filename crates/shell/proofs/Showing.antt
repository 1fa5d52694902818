-- What a sound image that is shown has: the words of its places, and no more places than there can be.
-- Assumes nothing.
use Prim.Native.Nat.{ℕ, ◌*◌, ◌≤◌}
use native.Mathlib.Bridge.{le_prop}
use mathlib.Core.Logic.{∥∥₁_elim}
use Rattle.kinds.specs.Names.{most_places}
use Rattle.image.proofs.Within.{has_word, places}
use Rattle.image.specs.Within.{Within}
use Rattle.model.proofs.Keys.{In}
use Rattle.model.specs.Image.{Image, Key, Has}

module _ {P S : ℕ} {x : Image} (w : ∥ Within P S x ∥₁) where
  pub has_shown : (κ : Key) → In (P * S) κ → Has x κ
  unfolding Has
  has_shown κ i = ∥∥₁_elim w le_prop (λ h. has_word P S x h κ i)

  pub places_shown : P * S ≤ most_places
  places_shown = ∥∥₁_elim w le_prop (λ h. places h)
