-- Laws of bits: one addition, a row of them, and spreading along any edges.
-- Assumes nothing.
use Prim.Native.Nat.{ℕ, ◌<◌}
use mathlib.Core.Path.{◌≡◌, refl, sym, ◌∙◌, subst}
use mathlib.Core.Bool.{Bool, true, false, cond}
use mathlib.Core.Logic.{◌≢◌, ◌⊎◌, inl, inr}
use native.Mathlib.Omega.{arith}
use native.Mathlib.Decide.{ℕ_discrete}
use lib.ListN.{get_or, set, length, replicate, length-set, length-replicate}
use lib.Seq.{get_or-set_same, get_or-set_other, set-get_or, set_comm}
use borrow.Author.Tests.{eqb-true}
use Rattle.loops.proofs.Loops.{each_keeps, each_reaches}
use Rattle.model.specs.Acts.{target}
use Rattle.model.specs.Questions.{Bits, has_bit, add_bit, collect}
use Rattle.model.proofs.Keys.{zeros}
use Rattle.model.proofs.Spreading.{Spreads}
use Rattle.model.proofs.Adding.{Commutes}

module _ (n : ℕ) where
  unfoldable pub Wide : Bits → Type 0
  Wide b = length b ≡ n

  pub bit_same : (b : Bits) (t : ℕ) → Wide b → t < n → has_bit (add_bit b t) t ≡ true
  unfolding has_bit add_bit Wide
  bit_same b t w l = rw (get_or-set_same b t 1 0 (omega arith))

  pub bit_other : (b : Bits) (t i : ℕ) → t ≢ i → has_bit (add_bit b t) i ≡ has_bit b i
  unfolding has_bit add_bit
  bit_other b t i ne = rw (get_or-set_other b t i 1 0 (λ q. ne (sym q)))

  pub bit_had : (b : Bits) (t : ℕ) → has_bit b t ≡ true → add_bit b t ≡ b
  unfolding has_bit add_bit
  bit_had b t e = let one : get_or b t 0 ≡ 1 = eqb-true _ _ e in subst (λ (v : ℕ). set b t v ≡ b) one (set-get_or b t 0)

  pub bit_wide : (b : Bits) (t : ℕ) → Wide b → Wide (add_bit b t)
  unfolding Wide add_bit
  bit_wide b t w = length-set b t 1 ∙ w

  bit_stays : (b : Bits) (t i : ℕ) → Wide b → t < n → has_bit b i ≡ true → has_bit (add_bit b t) i ≡ true
  bit_stays b t i w l e = go (ℕ_discrete t i)
    where
      go : Dec (t ≡ i) → has_bit (add_bit b t) i ≡ true
      go (yes q) = subst (λ (v : ℕ). has_bit (add_bit b t) v ≡ true) q (bit_same b t w l)
      go (no q) = bit_other b t i q ∙ e

  pub none_wide : Wide (replicate n 0)
  unfolding Wide
  none_wide = length-replicate {A = ℕ} n 0

  pub none_has : (t : ℕ) → has_bit (replicate n 0) t ≡ true → ⊥
  unfolding has_bit
  none_has t h = let z = zeros n t in let o : ◌≡◌ {A = ℕ} (get_or (replicate n 0) t 0) 1 = eqb-true _ _ h in omega arith

  -- any edges and targets that the bits do not change
  pub bit_spreads : (edge : ℕ → ℕ → Bool) (target : ℕ → ℕ → ℕ) (at : ℕ → ℕ) (m K : ℕ) → ((j k : ℕ) → j < m → k < K → edge (at j) k ≡ true → target (at j) k < n)
      → Spreads has_bit add_bit (λ b. edge) (λ b. target) at m K Wide (λ b t. t < n)
  bit_spreads edge target at m K inn =
      record {
        ok_add = λ b t w l. bit_wide b t w;
        has_same = λ b t w l. bit_same b t w l;
        has_other = λ b t i w l ne. bit_other b t i ne;
        add_had = λ b t e. bit_had b t e;
        edge_add = λ b t i k w l m. refl;
        target_add = λ b t i k w l m. refl;
        inside = λ b j k w l m e. inn j k l m e;
      }

  -- the order of additions does not matter
  pub bit_commutes : Commutes add_bit Wide (λ b t. t < n)
  unfolding add_bit
  bit_commutes = record { swap = λ b s t w l m ne. set_comm b s t 1 1 ne; may_on = λ b s t w l m. m; may_back = λ b s t w l m. m }

  -- a row of additions
  module _ (test : ℕ → Bool) (at : ℕ → ℕ) where
    add_cases : (Q : Bits → Type 0) (b : Bits) (r : ℕ) → (test r ≡ true → Q (add_bit b (at r))) → (test r ≡ false → Q b) → Q (cond (test r) (add_bit b (at r)) b)
    add_cases Q b r h k = go (test r) refl
      where
        go : (c : Bool) → test r ≡ c → Q (cond c (add_bit b (at r)) b)
        go true e = h e
        go false e = k e

    pub collect_wide : (m : ℕ) (b : Bits) → Wide b → Wide (collect m test at b)
    unfolding collect
    collect_wide m b w = each_keeps Wide m _ (λ c r l q. add_cases Wide c r (λ e. bit_wide c (at r) q) (λ e. q)) b w

    pub collect_only : (m : ℕ) (b : Bits) (t : ℕ) → has_bit (collect m test at b) t ≡ true → (has_bit b t ≡ true) ⊎ ((r : ℕ) × (r < m) × (test r ≡ true) × (at r ≡ t))
    unfolding collect
    collect_only m b t h =
        each_keeps (λ c. has_bit c t ≡ true → (has_bit b t ≡ true) ⊎ ((r : ℕ) × (r < m) × (test r ≡ true) × (at r ≡ t))) m _
        (λ c r l q. add_cases (λ d. has_bit d t ≡ true → (has_bit b t ≡ true) ⊎ ((r : ℕ) × (r < m) × (test r ≡ true) × (at r ≡ t))) c r (λ e g. pick c r l e q g (ℕ_discrete (at r) t)) (λ e. q)) b (λ g. inl g) h
      where
        pick : (c : Bits) (r : ℕ) → r < m → test r ≡ true → (has_bit c t ≡ true → (has_bit b t ≡ true) ⊎ ((r : ℕ) × (r < m) × (test r ≡ true) × (at r ≡ t))) → has_bit (add_bit c (at r)) t ≡ true → Dec (at r ≡ t)
            → (has_bit b t ≡ true) ⊎ ((r : ℕ) × (r < m) × (test r ≡ true) × (at r ≡ t))
        pick c r l e q g (yes d) = inr (r, l, e, d)
        pick c r l e q g (no d) = q (sym (bit_other c (at r) t d) ∙ g)

    module _ (m : ℕ) (inn : (r : ℕ) → r < m → test r ≡ true → at r < n) where
      Got : ℕ → Bits → Type 0
      Got t b = Wide b × (has_bit b t ≡ true)

      got_step : (t : ℕ) (c : Bits) (r : ℕ) → r < m → Got t c → Got t (cond (test r) (add_bit c (at r)) c)
      unfolding Got
      got_step t c r l g = add_cases (Got t) c r (λ e. (bit_wide c (at r) g.0, bit_stays c (at r) t g.0 (inn r l e) g.1)) (λ e. g)

      pub collect_more : (b : Bits) (t : ℕ) → Wide b → has_bit b t ≡ true → has_bit (collect m test at b) t ≡ true
      unfolding collect Got
      collect_more b t w e = (each_keeps (Got t) m _ (got_step t) b (w, e)).1

      pub collect_has : (b : Bits) (r : ℕ) → Wide b → r < m → test r ≡ true → has_bit (collect m test at b) (at r) ≡ true
      unfolding collect Got
      collect_has b r w l e =
          (each_reaches (Got (at r)) m _ b r l (got_step (at r))
          (let v = each_keeps Wide r (λ c r. cond (test r) (add_bit c (at r)) c) (λ c r l q. add_cases Wide c r (λ e. bit_wide c (at r) q) (λ e. q)) b w in
          rw e (bit_wide _ (at r) v, bit_same _ (at r) v (inn r l e)))).1
