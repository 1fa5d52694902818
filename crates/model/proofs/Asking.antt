-- The question's answer is yes exactly where a root or a handle leads to the object.
-- Assumes nothing.
use Prim.Native.Nat.{ℕ, ◌*◌, ◌<◌}
use mathlib.Core.Path.{◌≡◌, refl, subst}
use mathlib.Core.Bool.{true}
use mathlib.Core.Logic.{◌≢◌, ⊎_elim}
use lib.ListN.{replicate}
use borrow.Author.Tests.{eqb-false, ne_eqb, not-true}
use Rattle.model.specs.Image.{Image, Key, anchor, field, anchors, get, place_of, Holder, an_anchor, a_field}
use Rattle.model.specs.Spread.{Reach, start, step}
use Rattle.model.specs.Questions.{has_bit, add_bit, held, anchor_bits, reached_bits, ask}
use Rattle.model.specs.Chains.{Names, Leads}
use Rattle.model.proofs.Spreading.{Spreads, Edge, complete, least}
use Rattle.model.proofs.Bits.{Wide, none_wide, none_has, bit_spreads, collect_wide, collect_only, collect_has}

-- all that is asked of the image: every reference leads to one of its places
module _ (P S : ℕ) (x : Image) (refs : (κ : Key) → Holder (P * S) κ → get x κ ≢ 0 → place_of S (get x κ) < P * S) where
  pub held_is : (κ : Key) → held x κ ≡ true → Names S x κ (place_of S (get x κ))
  held_is κ e = record { some = eqb-false _ _ (not-true _ e); target = refl }

  pub held_so : (κ : Key) (t : ℕ) → Names S x κ t → held x κ ≡ true
  held_so κ t n = rw (ne_eqb (get x κ) 0 n.some)

  pub named_in : (κ : Key) → Holder (P * S) κ → (t : ℕ) → Names S x κ t → t < P * S
  named_in κ h t n = rw (← n.target) (refs κ h n.some)

  anchor_in : (r : ℕ) → r < anchors → held x (anchor r) ≡ true → place_of S (get x (anchor r)) < P * S
  anchor_in r l e = named_in (anchor r) (an_anchor l) _ (held_is (anchor r) e)

  -- the start: what roots and handles name
  pub begun : (t : ℕ) → has_bit (anchor_bits S x (P * S)) t ≡ true → (r : ℕ) × (r < anchors) × Names S x (anchor r) t
  unfolding anchor_bits
  begun t h =
      ⊎_elim (λ z. absurd (none_has (P * S) t z)) (λ q. (q.0, q.1, rw q.3 at (held_is (anchor q.0) q.2)))
      (collect_only (P * S) (λ r. held x (anchor r)) (λ r. place_of S (get x (anchor r))) anchors (replicate (P * S) 0) t h)

  pub begins : (r t : ℕ) → r < anchors → Names S x (anchor r) t → has_bit (anchor_bits S x (P * S)) t ≡ true
  unfolding anchor_bits
  begins r t l n =
      rw n.target at
      (collect_has (P * S) (λ r. held x (anchor r)) (λ r. place_of S (get x (anchor r))) anchors anchor_in (replicate (P * S) 0) r (none_wide (P * S)) l (held_so (anchor r) t n))

  pub begun_wide : Wide (P * S) (anchor_bits S x (P * S))
  unfolding anchor_bits
  begun_wide = collect_wide (P * S) (λ r. held x (anchor r)) (λ r. place_of S (get x (anchor r))) anchors (replicate (P * S) 0) (none_wide (P * S))

  bits : Spreads has_bit add_bit (λ b i k. held x (field i k)) (λ b i k. place_of S (get x (field i k))) (λ j. j) (P * S) 4 (Wide (P * S)) (λ b t. t < P * S)
  bits = bit_spreads (P * S) (λ i k. held x (field i k)) (λ i k. place_of S (get x (field i k))) (λ j. j) (P * S) 4 (λ j k l m e. named_in (field j k) (a_field l m) _ (held_is (field j k) e))

  ReachedBit : ℕ → Type 0
  ReachedBit = Reach (λ v. has_bit (anchor_bits S x (P * S)) v ≡ true) (Edge has_bit add_bit (λ b i k. held x (field i k)) (λ b i k. place_of S (get x (field i k))) (λ j. j) (P * S) 4 (anchor_bits S x (P * S)))

  to : (i : ℕ) → Leads S x i → (i < P * S) × ReachedBit i
  unfolding ReachedBit
  to i (start c) = (named_in (anchor c.0) (an_anchor c.1) i c.2, start (begins c.0 i c.1 c.2))
  to i (step {i = j} c e) =
      let r = to j c in (
        named_in (field j e.0) (a_field r.0 e.1) i e.2,
        step r.1 (j, e.0, r.0, e.1, refl, held_so (field j e.0) i e.2, e.2.target),
      )

  fro : (i : ℕ) → ReachedBit i → Leads S x i
  unfolding ReachedBit
  fro i (start h) = start (begun i h)
  fro i (step {i = j} c e) =
      step (fro j c) (e.1, e.3, subst (λ (v : ℕ). Names S x (field v e.1) i) e.4 (record { some = eqb-false _ _ (not-true _ e.5); target = e.6 }))

  pub ask_so : (i : ℕ) → Leads S x i → ask P S x i ≡ true
  unfolding ask reached_bits ReachedBit
  ask_so i l =
      complete has_bit add_bit _ _ (λ j. j) (P * S) 4 (Wide (P * S)) (λ b t. t < P * S) bits (λ i j l m q. q)
      (λ b j k w l m e. (place_of S (get x (field j k)), bits.inside b j k w l m e, refl)) (anchor_bits S x (P * S)) i begun_wide (to i l).1

  pub ask_only : (i : ℕ) → ask P S x i ≡ true → Leads S x i
  unfolding ask reached_bits ReachedBit
  ask_only i e = fro i (least has_bit add_bit _ _ (λ j. j) (P * S) 4 (Wide (P * S)) (λ b t. t < P * S) bits (anchor_bits S x (P * S)) begun_wide i e)
