-- Marks in an image that is within its bounds: what a mark changes, that the order of two does not matter, and that fields pass marks on as the
-- model's theory of spreading asks. An image that is only within its bounds may refer to a free slot, which no mark marks: an edge leads
-- to what can be marked.
-- Assumes nothing.
use Prim.Native.Nat.{ℕ, ◌+◌, ◌*◌, ◌<◌}
use mathlib.Core.Path.{◌≡◌, refl, sym, ap, ◌∙◌, subst}
use mathlib.Core.Bool.{Bool, true, false, cond}
use mathlib.Core.Logic.{◌≢◌, ◌⊎◌, inl, inr, ⊎_elim}
use native.Mathlib.Omega.{arith}
use native.Mathlib.Decide.{ℕ_discrete}
use lib.Dec.{eqb}
use borrow.Author.Tests.{eqb-true, eq-eqb, ne_eqb}
use Rattle.loops.specs.Loop.{both}
use Rattle.loops.proofs.Tests.{both_true, clash, eq_or_ne}
use Rattle.model.specs.Image.{Image, Key, flag, state, field, get, put, part_of, a_field}
use Rattle.model.specs.Acts.{marked, mark, refers, target}
use Rattle.model.proofs.Keys.{Fits, same, put_swap}
use Rattle.model.proofs.Places.{slot_in}
use Rattle.model.proofs.Spreading.{Spreads}
use Rattle.model.proofs.Adding.{Commutes}
use Rattle.model.proofs.Moves.{new_mark, new_mark_state, mark_keeps}
use Rattle.model.proofs.Tracing.{refers_is, refers_so, mark_read}
use Rattle.image.specs.Within.{Within}
use Rattle.image.proofs.Within.{flag_in, within_mark}

-- an object that is marked, or that a mark marks
abbrev pub markable : Image → ℕ → Bool
markable x i = cond (marked x i) true (eqb (get x (state i)) 1)

-- a field of the object at j passes a mark on to a wanted place
abbrev pub passes : ℕ → (ℕ → Bool) → Image → ℕ → ℕ → Bool
passes S wanted x j k = both (refers S wanted x j k) (markable x (target S x j k))

-- what can be marked
pub record Can (P S : ℕ) (x : Image) (i : ℕ) : Type 0 where
  pub place : i < P * S
  pub may : markable x i ≡ true

markable_is : (x : Image) (i : ℕ) → markable x i ≡ true → (get x (state i) ≡ 2) ⊎ (get x (state i) ≡ 1)
markable_is x i = go (marked x i) refl
  where
    go : (b : Bool) → marked x i ≡ b → cond b true (eqb (get x (state i)) 1) ≡ true → (get x (state i) ≡ 2) ⊎ (get x (state i) ≡ 1)
    go true q e = inl (eqb-true _ _ q)
    go false q e = inr (eqb-true _ _ e)

-- what is not unmarked stays as it is
pub mark_not : (S : ℕ) (x : Image) (i : ℕ) → get x (state i) ≢ 1 → mark S x i ≡ x
unfolding mark
mark_not S x i ne = rw (ne_eqb (get x (state i)) 1 ne)

pub mark_none : (S : ℕ) (x : Image) (i : ℕ) → markable x i ≡ false → mark S x i ≡ x
mark_none S x i e = mark_not S x i (λ q. let b : markable x i ≡ true = rw q in clash b e)

mark_had : (S : ℕ) (x : Image) (i : ℕ) → marked x i ≡ true → mark S x i ≡ x
mark_had S x i e = let two : get x (state i) ≡ 2 = eqb-true _ _ e in mark_not S x i (λ q. omega arith)

module _ {P S : ℕ} {x : Image} (h : Within P S x) {i : ℕ} (l : i < P * S) where
  pub mark_other : (μ : Key) → Fits μ → same (state i) μ ≡ false → same (flag (part_of S i)) μ ≡ false → get (mark S x i) μ ≡ get x μ
  mark_other μ f a b = mark_read P S h.limits x i μ l f a b

  mark_field : (j k : ℕ) → k < 4 → get (mark S x i) (field j k) ≡ get x (field j k)
  mark_field j k m = mark_other (field j k) m refl refl

  pub mark_past : (j : ℕ) → i ≢ j → get (mark S x i) (state j) ≡ get x (state j)
  mark_past j ne = mark_other (state j) tt (ne_eqb i j ne) refl

  mark_is : get x (state i) ≡ 1 → mark S x i ≡ new_mark P S h.limits x i
  mark_is e = mark_keeps P S h.limits (λ y. y ≡ new_mark P S h.limits x i) x i (λ q. refl) (λ ne. absurd (ne e))

  pub mark_one : get x (state i) ≡ 1 → get (mark S x i) (state i) ≡ 2
  mark_one e = rw (mark_is e) (new_mark_state P S h.limits x i l h.long)

  mark_can : markable x i ≡ true → get (mark S x i) (state i) ≡ 2
  mark_can e = ⊎_elim (λ q. rw (mark_not S x i (λ r. omega arith)) q) mark_one (markable_is x i e)

  -- a mark leaves it as it is which objects can be marked
  markable_mark : markable x i ≡ true → (j : ℕ) → markable (mark S x i) j ≡ markable x j
  markable_mark e j = go (ℕ_discrete i j)
    where
      go : Dec (i ≡ j) → markable (mark S x i) j ≡ markable x j
      go (yes q) = subst (λ (v : ℕ). markable (mark S x i) v ≡ markable x v) q (let two = mark_can e in let b : markable (mark S x i) i ≡ true = rw two in b ∙ sym e)
      go (no q) = rw (mark_past j q)

-- two marks in either order
module _ {P S : ℕ} {x : Image} (h : Within P S x) {i j : ℕ} (l : i < P * S) (m : j < P * S) (ne : i ≢ j) where
  new_mark_swap : put (put (put (put x (flag (part_of S i)) 0) (state i) 2) (flag (part_of S j)) 0) (state j) 2 ≡ put (put (put (put x (flag (part_of S j)) 0) (state j) 2) (flag (part_of S i)) 0) (state i) 2
  new_mark_swap =
      ap (λ (v : Image). put v (state j) 2) (put_swap (put x f 0) (state i) g 2 0 tt lj refl) ∙ put_swap (put (put x f 0) g 0) (state i) (state j) 2 2 tt tt (ne_eqb i j ne)
      ∙ ap (λ (v : Image). put (put v (state j) 2) (state i) 2) (flags (ℕ_discrete (part_of S i) (part_of S j)))
      ∙ ap (λ (v : Image). put v (state i) 2) (put_swap (put x g 0) f (state j) 0 2 li tt refl)
    where
      f : Key
      f = flag (part_of S i)

      g : Key
      g = flag (part_of S j)

      li : part_of S i < 16
      li = flag_in P S x h i l

      lj : part_of S j < 16
      lj = flag_in P S x h j m

      flags : Dec (part_of S i ≡ part_of S j) → put (put x f 0) g 0 ≡ put (put x g 0) f 0
      flags (yes q) = rw q
      flags (no q) = put_swap x f g 0 0 li lj (ne_eqb _ _ q)

  mark_swap : mark S (mark S x i) j ≡ mark S (mark S x j) i
  mark_swap =
      let en : j ≢ i = λ q. ne (sym q) in
      ⊎_elim
      (λ a.
      ⊎_elim
      (λ b.
      mark_is (within_mark P S x h i l) m (mark_past h l j ne ∙ b) ∙ ap (λ (v : Image). put (put v (flag (part_of S j)) 0) (state j) 2) (mark_is h l a) ∙ new_mark_swap
      ∙ ap (λ (v : Image). put (put v (flag (part_of S i)) 0) (state i) 2) (sym (mark_is h m b)) ∙ sym (mark_is (within_mark P S x h j m) l (mark_past h m i en ∙ a)))
      (λ b. mark_not S (mark S x i) j (λ q. b (sym (mark_past h l j ne) ∙ q)) ∙ ap (λ (v : Image). mark S v i) (sym (mark_not S x j b)))
      (eq_or_ne (get x (state j)) 1))
      (λ a. ap (λ (v : Image). mark S v j) (mark_not S x i a) ∙ sym (mark_not S (mark S x j) i (λ q. a (sym (mark_past h m i en) ∙ q))))
      (eq_or_ne (get x (state i)) 1)

pub commutes : (P S : ℕ) → Commutes (mark S) (Within P S) (Can P S)
commutes P S =
    record {
      swap = λ x s t w u v ne. mark_swap w u.place v.place ne;
      may_on = λ x s t w u v. record { place = v.place; may = markable_mark w u.place u.may t ∙ v.may };
      may_back = λ x s t w u v. record { place = v.place; may = sym (markable_mark w u.place u.may t) ∙ v.may };
    }

-- a field that passes a mark on
module _ (S : ℕ) (wanted : ℕ → Bool) (x : Image) (j k : ℕ) where
  pub passes_is : passes S wanted x j k ≡ true → (get x (field j k) ≢ 0) × (wanted (target S x j k) ≡ true) × (markable x (target S x j k) ≡ true)
  passes_is e = let a = both_true (refers S wanted x j k) (markable x (target S x j k)) e in let b = refers_is S wanted x j k a.0 in (b.0, b.1, a.1)

  pub passes_so : get x (field j k) ≢ 0 → wanted (target S x j k) ≡ true → markable x (target S x j k) ≡ true → passes S wanted x j k ≡ true
  passes_so ne e m = rw (refers_so S wanted x j k ne e, m)

-- the theory of spreading, over marks
pub spreads : (P S p : ℕ) → p < P → (wanted : ℕ → Bool) → Spreads marked (mark S) (passes S wanted) (target S) (λ s. p * S + s) S 4 (Within P S) (Can P S)
spreads P S p inp wanted =
    record {
      ok_add = λ x i w u. within_mark P S x w i u.place;
      has_same = λ x i w u. eq-eqb _ _ (mark_can w u.place u.may);
      has_other = λ x i j w u ne. rw (mark_past w u.place j ne);
      add_had = λ x i e. mark_had S x i e;
      edge_add = λ x i j k w u m. rw (mark_field w u.place j k m, markable_mark w u.place u.may (target S x j k));
      target_add = λ x i j k w u m. rw (mark_field w u.place j k m);
      inside = λ x j k w l m e.
          let b = passes_is S wanted x (p * S + j) k e in
          record { place = w.refs (field (p * S + j) k) (a_field (slot_in P S w.limits.some_slot p j inp l) m) b.0; may = b.2 };
    }
