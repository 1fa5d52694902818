-- What a loop in code knows at its start, after one more turn, and at its end: its invariant is an equation with `each`, `tally` or `every`.
-- Assumes nothing.
use Prim.Native.Nat.{ℕ, ◌+◌, ◌≤◌, ◌<◌}
use mathlib.Core.Path.{◌≡◌, refl, sym, ap, ◌∙◌, subst}
use mathlib.Core.Bool.{Bool, true, false, true≢false}
use native.Mathlib.Nat.{le_antisymm}
use native.Mathlib.Numerals.{add-one}
use Rattle.loops.specs.Loop.{each, tally, every, bit}
use Rattle.loops.proofs.Tests.{is_false}
use Rattle.loops.proofs.Loops.{every_true}

module _ {X : Type 0} (f : X → ℕ → X) (x : X) where
  pub each_none : x ≡ each 0 f x
  unfolding each
  each_none = refl

  pub each_more : (n : ℕ) (y : X) → y ≡ each n f x → f y n ≡ each (n + 1) f x
  unfolding each
  each_more n y e = rw (add-one n, e)

  pub each_done : (n k : ℕ) (y : X) → k ≤ n → n ≤ k → y ≡ each k f x → y ≡ each n f x
  each_done n k y p q e = e ∙ ap (λ (m : ℕ). each m f x) (le_antisymm p q)

module _ (f : ℕ → Bool) where
  pub tally_none : 0 ≡ tally 0 f
  unfolding tally
  tally_none = refl

  pub tally_more : (n c : ℕ) → c ≡ tally n f → c + bit (f n) ≡ tally (n + 1) f
  unfolding tally
  tally_more n c e = rw (add-one n, e)

  pub tally_done : (n k c : ℕ) → k ≤ n → n ≤ k → c ≡ tally k f → c ≡ tally n f
  tally_done n k c p q e = e ∙ ap (λ (m : ℕ). tally m f) (le_antisymm p q)

  pub every_none : every 0 f ≡ true
  unfolding every
  every_none = refl

  pub every_more : (n : ℕ) → every n f ≡ true → f n ≡ true → every (n + 1) f ≡ true
  unfolding every
  every_more n a h = rw (add-one n, a, h)

  pub every_done : (n k : ℕ) → k ≤ n → n ≤ k → every k f ≡ true → true ≡ every n f
  every_done n k p q a = sym (subst (λ (m : ℕ). every m f ≡ true) (le_antisymm p q) a)

  -- a loop that meets a number where the test fails
  pub every_fails : (n k : ℕ) → k < n → f k ≡ false → false ≡ every n f
  every_fails n k l e = sym (is_false (every n f) (λ a. true≢false (sym (every_true n f a k l) ∙ e)))
