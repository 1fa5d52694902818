-- Every write keeps an image within its bounds, and with every word that it had.
-- Assumes nothing.
use Prim.Native.Nat.{ℕ, ◌*◌, ◌<◌}
use mathlib.Core.Path.{◌≡◌, sym, ◌∙◌, subst}
use lib.ListN.{length}
use Rattle.model.specs.Image.{Image, Key, Has, Sized, field, put, release, a_field}
use Rattle.model.specs.Acts.{mark_word}
use Rattle.model.proofs.Keys.{has_put}
use Rattle.image.specs.Within.{Within}
use Rattle.image.proofs.Within.{Plain, Leads, within_put, within_release, within_mark_word}

pub has_after : (x : Image) {y : Image} (μ : Key) (v : ℕ) (κ : Key) → y ≡ put x μ v → Has x κ → Has y κ
has_after x μ v κ e h = subst (λ (z : Image). Has z κ) (sym e) (has_put x μ v κ h)

module _ {P S : ℕ} {x : Image} (h : Within P S x) {y : Image} where
  -- two images of as many places are equally long
  pub long_same : Within P S y → length y ≡ length x
  unfolding Sized
  long_same g = g.long ∙ sym h.long

  pub with_put : (κ : Key) (v : ℕ) → Plain κ → y ≡ put x κ v → Within P S y
  with_put κ v f e = subst (Within P S) (sym e) (within_put P S x h κ v f)

  pub with_mark : (w : ℕ) → Leads (P * S) S w → y ≡ mark_word S x w → Within P S y
  with_mark w l e = subst (Within P S) (sym e) (within_mark_word P S x h w l)

  pub with_release : (j k : ℕ) → j < P * S → k < 4 → y ≡ release S x (field j k) → Within P S y
  with_release j k l m e = subst (Within P S) (sym e) (within_release P S x h (field j k) (a_field l m))
