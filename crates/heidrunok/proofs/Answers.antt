-- The words of an operation after its kind are the numbers of its line in the log, in their order; words that the line has no number for are
-- not looked at. Computed.
-- Assumes nothing.
use Prim.Native.Nat.{ℕ}
use mathlib.Core.Path.{◌≡◌, refl}
use mathlib.Core.List.{[], ◌∷◌}
use Rattle.lines.specs.Words.{new_text, set_text, clr_text, val_text, root_text, unroot_text}
use Rattle.lines.specs.Print.{worded, operation_shape}
use Rattle.heidrunok.specs.Face.{operation_by, operation_of}

module _ (a b c d e : ℕ) where
  pub new_line : operation_shape (operation_of (1 ∷ a ∷ b ∷ c ∷ d ∷ e ∷ [])) ≡ worded new_text 3 a b c 0 0
  unfolding operation_of operation_by
  new_line = refl

  pub set_line : operation_shape (operation_of (2 ∷ a ∷ b ∷ c ∷ d ∷ e ∷ [])) ≡ worded set_text 5 a b c d e
  unfolding operation_of operation_by
  set_line = refl

  pub clr_line : operation_shape (operation_of (3 ∷ a ∷ b ∷ c ∷ d ∷ e ∷ [])) ≡ worded clr_text 3 a b c 0 0
  unfolding operation_of operation_by
  clr_line = refl

  pub val_line : operation_shape (operation_of (4 ∷ a ∷ b ∷ c ∷ d ∷ e ∷ [])) ≡ worded val_text 3 a b c 0 0
  unfolding operation_of operation_by
  val_line = refl

  pub root_line : operation_shape (operation_of (5 ∷ a ∷ b ∷ c ∷ d ∷ e ∷ [])) ≡ worded root_text 3 a b c 0 0
  unfolding operation_of operation_by
  root_line = refl

  pub unroot_line : operation_shape (operation_of (6 ∷ a ∷ b ∷ c ∷ d ∷ e ∷ [])) ≡ worded unroot_text 1 a 0 0 0 0
  unfolding operation_of operation_by
  unroot_line = refl
