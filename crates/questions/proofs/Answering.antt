-- What ask notes, among as many places as there can be, are the places of the model's answer: no reference leads beyond the image's places.
-- Assumes nothing.
use Prim.Native.Nat.{ℕ, ◌+◌, ◌*◌, ◌<◌}
use mathlib.Core.Path.{◌≡◌}
use mathlib.Core.Bool.{true}
use native.Mathlib.Nat.{zero-add}
use native.Mathlib.Omega.{arith}
use lib.Dec.{eqb}
use lib.ListN.{get_or, replicate}
use borrow.Author.Tests.{lt-ltb, le-ltb, eqb-false, not-true}
use Rattle.loops.specs.Loop.{both}
use Rattle.loops.proofs.Tests.{same_test, both_true, both_so}
use Rattle.kinds.specs.Names.{most_places}
use Rattle.model.specs.Image.{Image, Key, anchor, field, anchors, Holder, an_anchor, a_field}
use Rattle.model.specs.Questions.{Bits, has_bit, collect, held, held_at, anchor_bits, reached_bits, ask}
use Rattle.model.proofs.Alike.{Alike, Fits, alike_none, collect_alike, spread_alike}
use Rattle.image.specs.Within.{Within}
use Rattle.image.proofs.Within.{places}
use Rattle.todo.specs.Notes.{among, note_word, note_anchors, spread_among}
use Rattle.todo.specs.More.{More}
use Rattle.todo.specs.declared.Notes.{Notes}

module _ {P S : ℕ} {x : Image} (w : Within P S x) where
  leads : (κ : Key) → Holder (P * S) κ → held x κ ≡ true → held_at S x κ < P * S
  leads κ h e = w.refs κ h (eqb-false _ _ (not-true _ e))

  among_all : (κ : Key) → Holder (P * S) κ → both (held x κ) (among 0 (P * S) (held_at S x κ)) ≡ held x κ
  among_all κ h =
      let i = held_at S x κ in
      same_test _ _ (λ e. (both_true _ _ e).0) (λ e. both_so _ _ e (rw (le-ltb i 0 (omega arith), lt-ltb i (0 + P * S) (omega (arith, leads κ h e)))))

  fits : (κ : Key) → Holder (P * S) κ → held x κ ≡ true → Fits most_places (P * S) (held_at S x κ)
  fits κ h e = (omega (arith, leads κ h e, places w), leads κ h e)

  begun : Alike most_places (P * S) (note_anchors S 0 (P * S) x (replicate most_places 0)) (anchor_bits S x (P * S))
  unfolding note_anchors note_word anchor_bits collect
  begun =
      collect_alike most_places (P * S) anchors _ _ _ (λ r l. among_all (anchor r) (an_anchor l)) (λ r l. fits (anchor r) (an_anchor l)) (replicate most_places 0) (replicate (P * S) 0)
      (alike_none most_places (P * S))

  -- from nothing: what roots name, and what is spread from there
  module _ {a b : Notes} {marks : Bits} (none : (a.lo ≡ 0) × (a.n ≡ P * S) × (a.marks ≡ replicate most_places 0))
      (roots : (b.marks ≡ note_anchors S a.lo a.n x a.marks) × More a b) (all : marks ≡ spread_among S b.lo b.n x b.marks) (j : ℕ) where
    pub answered : eqb (get_or marks j 0) 1 ≡ ask P S x j
    unfolding spread_among ask reached_bits has_bit
    answered =
        rw (all, roots.0, roots.1.lo_same, roots.1.n_same, none.0, none.1, none.2, from_zero)
        ((spread_alike most_places (P * S) (λ i k. both (held x (field i k)) (among 0 (P * S) (held_at S x (field i k)))) (λ i k. held x (field i k)) (λ i k. held_at S x (field i k)) (λ i. i) (P * S) 4
        (λ i k l m. among_all (field i k) (a_field l m)) (λ i k l m. fits (field i k) (a_field l m)) _ _ begun).same j)
      where
        from_zero : ◌≡◌ {A = ℕ → ℕ} (λ i. 0 + i) (λ i. i)
        from_zero = λ k i. zero-add i k
