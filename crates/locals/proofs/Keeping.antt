-- What a local collection notes, among as many places as there can be, are the places that stay by the model.
-- Assumes nothing.
use Prim.Native.Nat.{ℕ, ◌+◌, ◌*◌, ◌<◌}
use mathlib.Core.Path.{◌≡◌, refl, ap}
use mathlib.Core.Bool.{true, not}
use native.Mathlib.Omega.{arith}
use lib.Dec.{ltb}
use lib.ListN.{replicate}
use borrow.Author.Tests.{ltb-true, ltb-false, lt-ltb, le-ltb, eqb-true, eq-eqb, not-true}
use Rattle.loops.specs.Loop.{both, each}
use Rattle.loops.proofs.Tests.{same_test, both_true}
use Rattle.kinds.specs.Names.{most_places}
use Rattle.model.specs.Image.{Image, Key, anchor, inlist, field, anchors}
use Rattle.model.specs.Acts.{own, local_start, local_bits}
use Rattle.model.specs.Questions.{Bits, collect, held, held_at}
use Rattle.model.proofs.Places.{slot_in, row_part, part_row}
use Rattle.model.proofs.Localizing.{own_in}
use Rattle.model.proofs.Alike.{Alike, Fits, alike_none, collect_alike, spread_alike}
use Rattle.image.specs.Within.{Within}
use Rattle.todo.specs.Notes.{among, note_word, note_anchors, spread_among}
use Rattle.todo.specs.More.{More}
use Rattle.todo.specs.declared.Notes.{Notes}
use Rattle.locals.specs.Slots.{named_one, Kept}
use Rattle.image.proofs.Within.{places}

module _ {P S : ℕ} {x : Image} (w : Within P S x) (p : ℕ) (inp : p < P) where
  -- a reference into the row of p's places is one into p
  row_own : (κ : Key) → both (held x κ) (among (p * S) S (held_at S x κ)) ≡ both (held x κ) (own S p (held_at S x κ))
  row_own κ = ap (both (held x κ)) (same_test (among (p * S) S i) (own S p i) into out)
    where
      i : ℕ
      i = held_at S x κ

      into : among (p * S) S i ≡ true → own S p i ≡ true
      into e = let b = both_true (not (ltb i (p * S))) (ltb i (p * S + S)) e in eq-eqb _ _ (row_part S p i w.limits.some_slot (ltb-false _ _ (not-true _ b.0)) (ltb-true _ _ b.1))

      out : own S p i ≡ true → among (p * S) S i ≡ true
      out e = let h = part_row S p i w.limits.some_slot (eqb-true _ _ e) in rw (le-ltb i (p * S) h.0, lt-ltb i (p * S + S) h.1)

  small : (i : ℕ) → i < P * S → Fits most_places (P * S) i
  small i l = (omega (arith, places w), l)

  own_small : (κ : Key) → both (held x κ) (own S p (held_at S x κ)) ≡ true → Fits most_places (P * S) (held_at S x κ)
  own_small κ e = small _ (own_in P S w.limits.some_slot p inp x w.refs _ (eqb-true _ _ (both_true (held x κ) (own S p (held_at S x κ)) e).1))

  begun : Alike most_places (P * S) (each S (named_one S p x) (note_anchors S (p * S) S x (replicate most_places 0))) (local_start P S p x)
  unfolding note_anchors note_word local_start collect
  begun =
      collect_alike most_places (P * S) S (λ s. held x (inlist (p * S + s))) _ (λ s. p * S + s) (λ s l. refl) (λ s l e. small _ (slot_in P S w.limits.some_slot p s inp l)) _ _
      (collect_alike most_places (P * S) anchors _ _ _ (λ r l. row_own (anchor r)) (λ r l. own_small (anchor r)) _ _ (alike_none most_places (P * S)))

  spread_kept : Alike most_places (P * S) (spread_among S (p * S) S x (each S (named_one S p x) (note_anchors S (p * S) S x (replicate most_places 0)))) (local_bits P S p x)
  unfolding spread_among local_bits
  spread_kept = spread_alike most_places (P * S) _ _ _ (λ s. p * S + s) S 4 (λ j k l m. row_own (field (p * S + j) k)) (λ j k l m. own_small (field (p * S + j) k)) _ _ begun

  -- from nothing: what roots name, what counts say, and what is spread from there
  pub all_kept : {a b c : Notes} {d : Bits} → (a.lo ≡ p * S) × (a.n ≡ S) × (a.marks ≡ replicate most_places 0)
      → (b.marks ≡ note_anchors S a.lo a.n x a.marks) × More a b → (c.marks ≡ each S (named_one S p x) b.marks) × More b c → d ≡ spread_among S c.lo c.n x c.marks
      → Kept P S p x d
  unfolding Kept
  all_kept e f g h j =
      rw (h, g.1.lo_same, g.1.n_same, g.0, f.1.lo_same, f.1.n_same, f.0, e.0, e.1, e.2) (spread_kept.same j)
