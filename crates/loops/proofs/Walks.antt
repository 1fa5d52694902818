-- Laws of any search or sweep: how a loop in code goes on, and what it comes to. They speak of no image.
-- Assumes nothing.
use Prim.Native.Nat.{ℕ, zero, suc, ◌+◌, ◌-◌, ◌≤◌, ◌<◌}
use mathlib.Core.Path.{◌≡◌, refl, sym, ◌∙◌, subst}
use mathlib.Core.Bool.{Bool, true, false, not, cond}
use mathlib.Core.Logic.{⊎_elim}
use native.Mathlib.Nat.{eq-or-lt_of_le}
use native.Mathlib.Omega.{arith}
use borrow.Author.Tests.{not-true, not-false}
use Rattle.loops.specs.Loop.{each, first, every, tally, bit}
use Rattle.loops.proofs.Tests.{clash, lt_or_ge}
use Rattle.loops.proofs.Loops.{every_so}
use Rattle.loops.proofs.Turns.{every_fails}

module _ {X : Type 0} where
  pub each_same : (f g : X → ℕ → X) (n : ℕ) (x : X) → ((y : X) (i : ℕ) → i < n → f y i ≡ g y i) → each n f x ≡ each n g x
  unfolding each
  each_same f g zero x h = refl
  each_same f g (suc n) x h = rw (each_same f g n x (λ y i l. h y i (omega arith))) (h (each n g x) n (omega arith))

module _ (f : ℕ → Bool) where
  -- the whole search is the rest from i
  pub first_here : (n i : ℕ) → i < n → f i ≡ true → first (n - i) i f ≡ i
  unfolding first
  first_here n i l e = let q : n - i ≡ suc (n - suc i) = omega arith in rw (q, e)

  pub first_on : (n i : ℕ) → i < n → f i ≡ false → first (n - i) i f ≡ first (n - (i + 1)) (i + 1) f
  unfolding first
  first_on n i l e =
      let q : n - i ≡ suc (n - suc i) = omega arith in
      let s : i + 1 ≡ suc i = omega arith in
      rw (q, s, e)

  pub first_end : (n i : ℕ) → n ≤ i → first (n - i) i f ≡ i
  unfolding first
  first_end n i l = let q : n - i ≡ 0 = omega arith in rw q

  -- what a search comes to meets the test, or none does
  pub first_some : (n i : ℕ) → first n i f < i + n → f (first n i f) ≡ true
  unfolding first
  first_some zero i l = absurd (omega arith)
  first_some (suc n) i l = go (f i) refl (first_some n (suc i)) l
    where
      go : (b : Bool) → f i ≡ b → (first n (suc i) f < suc i + n → f (first n (suc i) f) ≡ true) → cond b i (first n (suc i) f) < i + suc n
          → f (cond b i (first n (suc i) f)) ≡ true
      go true e r l = e
      go false e r l = r (omega arith)

  -- none below it does
  pub first_below : (n i k : ℕ) → i ≤ k → k < first n i f → f k ≡ false
  unfolding first
  first_below zero i k a b = absurd (omega arith)
  first_below (suc n) i k a b = go (f i) refl (first_below n (suc i) k) b
    where
      go : (c : Bool) → f i ≡ c → (suc i ≤ k → k < first n (suc i) f → f k ≡ false) → k < cond c i (first n (suc i) f) → f k ≡ false
      go true e r m = absurd (omega arith)
      go false e r m = ⊎_elim (λ q. subst (λ (j : ℕ). f j ≡ false) q e) (λ q. r q m) (eq-or-lt_of_le a)

  pub first_none : (n i : ℕ) → i + n ≤ first n i f → (k : ℕ) → i ≤ k → k < i + n → f k ≡ false
  first_none n i l k a b = first_below n i k a (omega arith)

  -- of a search from 0: it comes to the lowest that passes
  pub first_passes : (n : ℕ) → first n 0 f < n → f (first n 0 f) ≡ true
  first_passes n l = first_some n 0 (omega arith)

  pub first_low : (n k : ℕ) → f k ≡ true → first n 0 f ≤ k
  first_low n k e = ⊎_elim (λ l. absurd (clash e (first_below n 0 k (omega arith) l))) (λ l. l) (lt_or_ge k (first n 0 f))

  pub first_in : (n k : ℕ) → k < n → f k ≡ true → first n 0 f < n
  first_in n k l e = omega (arith, first_low n k e)

  pub first_most : (n i : ℕ) → first n i f ≤ i + n
  unfolding first
  first_most zero i = omega arith
  first_most (suc n) i = go (f i) (first_most n (suc i))
    where
      go : (b : Bool) → first n (suc i) f ≤ suc i + n → cond b i (first n (suc i) f) ≤ i + suc n
      go true l = omega arith
      go false l = omega arith

pub first_same : (f g : ℕ → Bool) (n i : ℕ) → ((k : ℕ) → i ≤ k → k < i + n → f k ≡ g k) → first n i f ≡ first n i g
unfolding first
first_same f g zero i h = refl
first_same f g (suc n) i h = rw (h i (omega arith) (omega arith), first_same f g n (suc i) (λ k a b. h k (omega arith) (omega arith)))

-- none of n passes
pub tally_none_pass : (n : ℕ) (f : ℕ → Bool) → ((i : ℕ) → i < n → f i ≡ false) → tally n f ≡ 0
unfolding tally
tally_none_pass zero f h = refl
tally_none_pass (suc n) f h = rw (tally_none_pass n f (λ i l. h i (omega arith)), h n (omega arith))

-- where all that pass f pass g, no fewer pass g; and more, where one that passes g does not pass f
module _ (f g : ℕ → Bool) where
  tally_both : (n c d : ℕ) → c + tally n f ≤ d + tally n g → (f n ≡ true → g n ≡ true) → c + (tally n f + bit (f n)) ≤ d + (tally n g + bit (g n))
  tally_both n c d r h = go (f n) refl (g n) refl
    where
      go : (b : Bool) → f n ≡ b → (e : Bool) → g n ≡ e → c + (tally n f + bit (f n)) ≤ d + (tally n g + bit (g n))
      go true p true q = rw (p, q) (omega arith)
      go true p false q = absurd (clash (h p) q)
      go false p true q = rw (p, q) (omega arith)
      go false p false q = rw (p, q) (omega arith)

  pub tally_up : (n : ℕ) → ((i : ℕ) → i < n → f i ≡ true → g i ≡ true) → tally n f ≤ tally n g
  unfolding tally
  tally_up zero h = omega arith
  tally_up (suc n) h = omega (arith, tally_both n 0 0 (omega (arith, tally_up n (λ i l. h i (omega arith)))) (h n (omega arith)))

  pub tally_above : (n j : ℕ) → j < n → f j ≡ false → g j ≡ true → ((i : ℕ) → i < n → f i ≡ true → g i ≡ true) → tally n f < tally n g
  unfolding tally
  tally_above zero j l a b h = absurd (omega arith)
  tally_above (suc n) j l a b h =
      ⊎_elim
      (λ (q : j ≡ n).
      let r : tally n f ≤ tally n g = tally_up n (λ i k. h i (omega arith)) in
      let x : bit (f n) ≡ 0 = rw (← q, a) in
      let y : bit (g n) ≡ 1 = rw (← q, b) in
      omega arith)
      (λ (q : j < n). omega (arith, tally_both n 1 0 (omega (arith, tally_above n j q a b (λ i k. h i (omega arith)))) (h n (omega arith))))
      (eq-or-lt_of_le (omega arith))

module _ (n : ℕ) (f g : ℕ → Bool) (h : (i : ℕ) → f i ≡ not (g i)) where
  -- one that meets the test is one that fails its opposite
  pub first_fails : first n 0 f < n → every n g ≡ false
  first_fails l =
      sym (every_fails g n (first n 0 f) l (not-true (g (first n 0 f)) (sym (h (first n 0 f)) ∙ first_some f n 0 (omega arith))))

  pub first_every : n ≤ first n 0 f → every n g ≡ true
  first_every l = every_so n g (λ i m. not-false (g i) (sym (h i) ∙ first_none f n 0 (omega arith) i (omega arith) (omega arith)))
