-- Laws of the loops, in the order of specs/Loop.antt.
-- Assumes nothing.
use Prim.Native.Nat.{ℕ, zero, suc, ◌+◌, ◌≤◌, ◌<◌}
use mathlib.Core.Path.{◌≡◌, refl, sym, ap, subst}
use mathlib.Core.Bool.{Bool, true, false, true≢false}
use mathlib.Core.Logic.{◌⊎◌, ⊎_elim}
use native.Mathlib.Nat.{le_of_suc-le-suc, not-suc-le-zero, eq-or-lt_of_le}
use native.Mathlib.Omega.{arith}
use Rattle.loops.specs.Loop.{each, again, tally, every, bit}
use Rattle.loops.proofs.Tests.{both_true, bit_le, bit_zero}

module _ {X : Type 0} (Q : X → Type 0) where
  pub each_keeps : (n : ℕ) (f : X → ℕ → X) → ((x : X) (i : ℕ) → i < n → Q x → Q (f x i)) → (x : X) → Q x → Q (each n f x)
  unfolding each
  each_keeps zero f h x q = q
  each_keeps (suc n) f h x q = h (each n f x) n (omega arith) (each_keeps n f (λ y i l. h y i (omega arith)) x q)

  -- where step j makes Q hold and every step keeps it, it holds at the end
  pub each_reaches : (n : ℕ) (f : X → ℕ → X) (x : X) (j : ℕ) → j < n → ((y : X) (i : ℕ) → i < n → Q y → Q (f y i)) → Q (f (each j f x) j) → Q (each n f x)
  unfolding each
  each_reaches zero f x j l keep made = absurd (not-suc-le-zero l)
  each_reaches (suc n) f x j l keep made =
      ⊎_elim (λ e. subst (λ (m : ℕ). Q (f (each m f x) m)) e made)
      (λ lt. keep (each n f x) n (omega arith) (each_reaches n f x j lt (λ y i m. keep y i (omega arith)) made))
      (eq-or-lt_of_le (le_of_suc-le-suc l))

  pub again_keeps : (n : ℕ) (f : X → X) → ((x : X) → Q x → Q (f x)) → (x : X) → Q x → Q (again n f x)
  unfolding again
  again_keeps zero f h x q = q
  again_keeps (suc n) f h x q = again_keeps n f h (f x) (h x q)

module _ {X : Type 0} (f : X → X) where
  -- a state that a turn leaves as it is
  again_rests : (n : ℕ) (x : X) → f x ≡ x → again n f x ≡ x
  unfolding again
  again_rests zero x e = refl
  again_rests (suc n) x e = rw e (again_rests n x e)

  -- a turn that changes nothing or brings a number down comes to rest within that many turns
  pub descent : (m : X → ℕ) (Ok : X → Type 0) → ((x : X) → Ok x → Ok (f x)) → ((x : X) → Ok x → (f x ≡ x) ⊎ (m (f x) < m x))
      → (n : ℕ) (x : X) → Ok x → m x ≤ n → f (again n f x) ≡ again n f x
  unfolding again
  descent m Ok kept d zero x ok l = ⊎_elim (λ e. e) (λ lt. absurd (omega arith)) (d x ok)
  descent m Ok kept d (suc n) x ok l =
      ⊎_elim (λ e. subst (λ (y : X). f y ≡ y) (sym (again_rests (suc n) x e)) e) (λ lt. descent m Ok kept d n (f x) (kept x ok) (omega arith)) (d x ok)

-- two rows of turns keep what each pair of turns keeps
module _ {X Y : Type 0} (R : X → Y → Type 0) where
  pub each_alike : (n : ℕ) (f : X → ℕ → X) (g : Y → ℕ → Y) → ((x : X) (y : Y) (i : ℕ) → i < n → R x y → R (f x i) (g y i)) → (x : X) (y : Y) → R x y → R (each n f x) (each n g y)
  unfolding each
  each_alike zero f g h x y r = r
  each_alike (suc n) f g h x y r = h (each n f x) (each n g y) n (omega arith) (each_alike n f g (λ a b i l. h a b i (omega arith)) x y r)

  pub again_alike : (n : ℕ) (f : X → X) (g : Y → Y) → ((x : X) (y : Y) → R x y → R (f x) (g y)) → (x : X) (y : Y) → R x y → R (again n f x) (again n g y)
  unfolding again
  again_alike zero f g h x y r = r
  again_alike (suc n) f g h x y r = again_alike n f g h (f x) (g y) (h x y r)

pub tally_same : (n : ℕ) (f g : ℕ → Bool) → ((i : ℕ) → i < n → f i ≡ g i) → tally n f ≡ tally n g
unfolding tally
tally_same zero f g h = refl
tally_same (suc n) f g h = let e : f n ≡ g n = h n (omega arith) in let r : tally n f ≡ tally n g = tally_same n f g (λ i l. h i (omega arith)) in cc

-- one change, at j
pub tally_move : (n : ℕ) (f g : ℕ → Bool) (j : ℕ) → j < n → ((i : ℕ) → i < n → (i ≡ j → ⊥) → f i ≡ g i) → tally n g + bit (f j) ≡ tally n f + bit (g j)
unfolding tally
tally_move zero f g j l h = absurd (not-suc-le-zero l)
tally_move (suc n) f g j l h =
    ⊎_elim
    (λ e.
    let r : tally n f ≡ tally n g = tally_same n f g (λ i k. h i (omega arith) (λ q. omega arith)) in
    omega (arith, r, ap (λ (k : ℕ). bit (f k)) e, ap (λ (k : ℕ). bit (g k)) e))
    (λ lt.
    let r : tally n g + bit (f j) ≡ tally n f + bit (g j) = tally_move n f g j lt (λ i k. h i (omega arith)) in
    let e : bit (f n) ≡ bit (g n) = ap bit (h n (omega arith) (λ q. omega arith)) in
    omega arith)
    (eq-or-lt_of_le (le_of_suc-le-suc l))

pub tally_le : (n : ℕ) (f : ℕ → Bool) → tally n f ≤ n
unfolding tally
tally_le zero f = omega arith
tally_le (suc n) f = omega (arith, tally_le n f, bit_le (f n))

pub tally_zero : (n : ℕ) (f : ℕ → Bool) → tally n f ≡ 0 → (i : ℕ) → i < n → f i ≡ false
unfolding tally
tally_zero zero f e i l = absurd (not-suc-le-zero l)
tally_zero (suc n) f e i l =
    ⊎_elim (λ q. rw q (bit_zero (f n) (omega arith))) (λ q. tally_zero n f (omega arith) i q) (eq-or-lt_of_le (le_of_suc-le-suc l))

pub tally_some : (n : ℕ) (f : ℕ → Bool) (i : ℕ) → i < n → f i ≡ true → 0 < tally n f
unfolding tally
tally_some zero f i l e = absurd (not-suc-le-zero l)
tally_some (suc n) f i l e =
    ⊎_elim (λ q. let b : bit (f n) ≡ 1 = rw (← q, e) in omega arith) (λ q. let r = tally_some n f i q e in omega arith) (eq-or-lt_of_le (le_of_suc-le-suc l))

pub every_same : (n : ℕ) (f g : ℕ → Bool) → ((i : ℕ) → i < n → f i ≡ g i) → every n f ≡ every n g
unfolding every
every_same zero f g h = refl
every_same (suc n) f g h = rw (every_same n f g (λ i l. h i (omega arith)), h n (omega arith))

pub every_true : (n : ℕ) (f : ℕ → Bool) → every n f ≡ true → (i : ℕ) → i < n → f i ≡ true
unfolding every
every_true zero f e i l = absurd (not-suc-le-zero l)
every_true (suc n) f e i l =
    let b = both_true _ _ e in
    ⊎_elim (λ q. rw q b.1) (λ q. every_true n f b.0 i q) (eq-or-lt_of_le (le_of_suc-le-suc l))

pub every_so : (n : ℕ) (f : ℕ → Bool) → ((i : ℕ) → i < n → f i ≡ true) → every n f ≡ true
unfolding every
every_so zero f h = refl
every_so (suc n) f h = rw (every_so n f (λ i l. h i (omega arith)), h n (omega arith))

pub every_false : (n : ℕ) (f : ℕ → Bool) → every n f ≡ false → (i : ℕ) × (i < n) × (f i ≡ false)
unfolding every
every_false zero f e = absurd (true≢false e)
every_false (suc n) f e = go (every n f) refl (λ q. every_false n f q)
  where
    go : (b : Bool) → every n f ≡ b → (every n f ≡ false → (i : ℕ) × (i < n) × (f i ≡ false)) → (i : ℕ) × (i < suc n) × (f i ≡ false)
    go true q ih = (n, omega arith, (rw q at e))
    go false q ih = let r = ih q in (r.0, omega arith, r.2)
