-- Bits of two widths, side by side: the same additions, and spreading along the same edges, leave the same places in both.
-- Assumes nothing.
use Prim.Native.Nat.{ℕ, ◌<◌}
use mathlib.Core.Path.{◌≡◌, refl, sym, ◌∙◌, subst}
use mathlib.Core.Bool.{Bool, true, false, cond}
use mathlib.Core.Logic.{⊎_elim}
use lib.ListN.{replicate}
use Rattle.loops.specs.Loop.{both}
use Rattle.loops.proofs.Loops.{each_alike, again_alike}
use Rattle.loops.proofs.Tests.{is_false, both_true, eq_or_ne}
use Rattle.model.specs.Spread.{follow, pass, spread}
use Rattle.model.specs.Questions.{Bits, has_bit, add_bit, collect}
use Rattle.model.proofs.Bits.{Wide, bit_same, bit_other, bit_wide, none_wide, none_has}

-- b, of width m, and c, of width n, have the same places
pub record Alike (m n : ℕ) (b c : Bits) : Type 0 where
  pub left : Wide m b
  pub right : Wide n c
  pub same : (i : ℕ) → has_bit b i ≡ has_bit c i

module _ (m n : ℕ) where
  pub alike_none : Alike m n (replicate m 0) (replicate n 0)
  alike_none = record { left = none_wide m; right = none_wide n; same = λ i. is_false _ (none_has m i) ∙ sym (is_false _ (none_has n i)) }

  -- a place that both can have
  abbrev pub Fits : ℕ → Type 0
  Fits t = (t < m) × (t < n)

  alike_add : (b c : Bits) (t : ℕ) → Fits t → Alike m n b c → Alike m n (add_bit b t) (add_bit c t)
  alike_add b c t l a =
      record {
        left = bit_wide m b t a.left;
        right = bit_wide n c t a.right;
        same =
            λ i.
            ⊎_elim
            (λ q. subst (λ (v : ℕ). has_bit (add_bit b t) v ≡ has_bit (add_bit c t) v) q (bit_same m b t a.left l.0 ∙ sym (bit_same n c t a.right l.1)))
            (λ ne. bit_other m b t i ne ∙ a.same i ∙ sym (bit_other n c t i ne))
            (eq_or_ne t i);
      }

  -- an addition after a test
  alike_test : (d e : Bool) (b c : Bits) (t : ℕ) → d ≡ e → (e ≡ true → Fits t) → Alike m n b c → Alike m n (cond d (add_bit b t) b) (cond e (add_bit c t) c)
  alike_test d true b c t q l a = rw q (alike_add b c t (l refl) a)
  alike_test d false b c t q l a = rw q a

  pub collect_alike : (k : ℕ) (f g : ℕ → Bool) (at : ℕ → ℕ) → ((i : ℕ) → i < k → f i ≡ g i) → ((i : ℕ) → i < k → g i ≡ true → Fits (at i))
      → (b c : Bits) → Alike m n b c → Alike m n (collect k f at b) (collect k g at c)
  unfolding collect
  collect_alike k f g at q l = each_alike (Alike m n) k _ _ (λ b c i h a. alike_test (f i) (g i) b c (at i) (q i h) (l i h) a)

  pub spread_alike : (f g : ℕ → ℕ → Bool) (target : ℕ → ℕ → ℕ) (at : ℕ → ℕ) (k K : ℕ)
      → ((j i : ℕ) → j < k → i < K → f (at j) i ≡ g (at j) i) → ((j i : ℕ) → j < k → i < K → g (at j) i ≡ true → Fits (target (at j) i))
      → (b c : Bits) → Alike m n b c → Alike m n (spread has_bit add_bit (λ b. f) (λ b. target) at k K b) (spread has_bit add_bit (λ b. g) (λ b. target) at k K c)
  unfolding spread pass follow
  spread_alike f g target at k K q l =
      again_alike (Alike m n) k _ _
      (each_alike (Alike m n) k _ _
      (λ b c j h.
      each_alike (Alike m n) K _ _
      (λ b c i o a.
      alike_test (both (has_bit b (at j)) (f (at j) i)) (both (has_bit c (at j)) (g (at j) i)) b c (target (at j) i)
      (rw (a.same (at j), q j i h o)) (λ e. l j i h o (both_true (has_bit c (at j)) (g (at j) i) e).1) a)
      b c))
