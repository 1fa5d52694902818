-- The words of a name's object are there, and its record is made from them.
-- Assumes nothing.
use Prim.Native.Nat.{ℕ, ◌*◌, ◌<◌}
use mathlib.Core.Path.{◌≡◌}
use mathlib.Core.List.{List, [], ◌∷◌}
use Rattle.kinds.specs.declared.Field.{Field}
use Rattle.kinds.specs.declared.Record.{Record}
use Rattle.model.specs.Image.{Image, payload, field, get, Has}
use Rattle.model.specs.Questions.{field_of, read_of}
use Rattle.image.specs.Within.{Within}
use Rattle.image.proofs.Within.{has_word}

module _ {P S : ℕ} {x : Image} (w : Within P S x) {j i : ℕ} (e : j ≡ i) (l : i < P * S) where
  pub has_payload : Has x (payload j)
  has_payload = has_word _ _ _ w (payload j) (rw e l)

  pub has_field : (k : ℕ) → k < 4 → Has x (field j k)
  has_field k h = has_word _ _ _ w (field j k) (rw e l, h)

pub made : (x : Image) (j v : ℕ) (l : List Field) → v ≡ get x (payload j) → l ≡ field_of x j 0 ∷ field_of x j 1 ∷ field_of x j 2 ∷ field_of x j 3 ∷ []
    → ◌≡◌ {A = Record} (record { payload = v; fields = l }) (read_of x j)
unfolding read_of
made x j v l q e = λ i. record { payload = q i; fields = e i }
