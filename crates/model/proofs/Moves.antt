-- What each small move on the image keeps.
-- Assumes nothing.
use Prim.Native.Nat.{ℕ, ◌*◌, ◌≤◌, ◌<◌}
use mathlib.Core.Path.{◌≡◌, refl, sym, ◌∙◌}
use mathlib.Core.Bool.{Bool, true, false, cond}
use mathlib.Core.Logic.{◌≢◌, ◌⊎◌, inl, inr, ⊎_elim}
use native.Mathlib.Omega.{arith}
use native.Mathlib.Decide.{ℕ_discrete}
use lib.Dec.{eqb}
use borrow.Author.Tests.{eqb-true, eqb-false, ne_eqb}
use Rattle.loops.proofs.Loops.{each_keeps, each_reaches}
use Rattle.kinds.specs.Names.{most_partitions}
use Rattle.model.specs.Image.{Image, Key, head, flag, state, field, get, put, place_of, part_of, refer, Holder, a_field}
use Rattle.model.specs.Acts.{mark, unclean}
use Rattle.model.specs.Sound.{Limits}
use Rattle.model.proofs.Keys.{Fits, In, Sized, same, in_fits, get_put_apart, sized_put, get_put_same, get_put_other, refer_apart, sized_refer, refer_same}
use Rattle.model.proofs.Places.{parts}
use Rattle.model.proofs.Holders.{holder_in, Plain, plain_in, plain_state, plain_flag, plain_holder, holder_state, state_holder, holder_flag, flag_holder, holder_head, holder_same}

-- the facts about an image that the theorems use
pub record Linked (P S : ℕ) (img : Image) : Type 0 where
  pub size : Sized (P * S) img
  pub states : (i : ℕ) → i < P * S → get img (state i) ≤ 2
  pub refs : (κ : Key) → Holder (P * S) κ → get img κ ≢ 0 → (place_of S (get img κ) < P * S) × (get img (state (place_of S (get img κ))) ≢ 0)
  pub free : (i k : ℕ) → i < P * S → k < 4 → get img (state i) ≡ 0 → get img (field i k) ≡ 0

-- all flags become 0, and no other word changes
pub unclean_other : (x : Image) (μ : Key) → Fits μ → ((p : ℕ) → same (flag p) μ ≡ false) → get (unclean x) μ ≡ get x μ
unfolding unclean
unclean_other x μ f e = each_keeps (λ y. get y μ ≡ get x μ) most_partitions _ (λ y p l q. get_put_apart y (flag p) 0 μ l f (e p) ∙ q) x refl

module _ (n : ℕ) (x : Image) (z : Sized n x) where
  pub sized_unclean : Sized n (unclean x)
  unfolding unclean
  sized_unclean = each_keeps (Sized n) most_partitions _ (λ y p l w. sized_put _ _ _ _ w) x z

  pub unclean_flag : (p : ℕ) → p < most_partitions → get (unclean x) (flag p) ≡ 0
  unfolding unclean
  unclean_flag p l =
      (each_reaches (λ y. Sized n y × (get y (flag p) ≡ 0)) most_partitions _ x p l (λ y q m g. (sized_put _ _ _ _ g.0, kept y q m g.0 g.1 (ℕ_discrete q p)))
      (let w = each_keeps (Sized n) p (λ y q. put y (flag q) 0) (λ y q m w. sized_put _ _ _ _ w) x z in (sized_put _ _ _ _ w, get_put_same n _ (flag p) 0 w l))
      ).1
    where
      kept : (y : Image) (q : ℕ) → q < most_partitions → Sized n y → get y (flag p) ≡ 0 → Dec (q ≡ p) → get (put y (flag q) 0) (flag p) ≡ 0
      kept y q m w e (yes r) = rw (← r) (get_put_same n y (flag q) 0 w m)
      kept y q m w e (no r) = get_put_apart y (flag q) 0 (flag p) m l (ne_eqb q p r) ∙ e

module _ (P S : ℕ) where
  -- y has x's references, and what is newly in use or marked is marked, without references or in a partition that is not clean
  pub record Up (x y : Image) : Type 0 where
    pub size : Sized (P * S) y
    pub states : (j : ℕ) → j < P * S → (get y (state j) ≡ get x (state j)) ⊎ ((get y (state j) ≡ 2) × ((get y (flag (part_of S j)) ≡ 0) ⊎ ((k : ℕ) → k < 4 → get x (field j k) ≡ 0)))
    pub flags : (p : ℕ) → p < P → (get y (flag p) ≡ get x (flag p)) ⊎ (get y (flag p) ≡ 0)
    pub holders : (κ : Key) → Holder (P * S) κ → get y κ ≡ get x κ

  -- y has x's references, and states as x, but for some that are now in use
  pub record Grow (x y : Image) : Type 0 where
    pub size : Sized (P * S) y
    pub states : (j : ℕ) → j < P * S → (get y (state j) ≡ get x (state j)) ⊎ ((get y (state j) ≢ 0) × (get y (state j) ≤ 2))
    pub holders : (κ : Key) → Holder (P * S) κ → get y κ ≡ get x κ

module _ (P S : ℕ) (limits : Limits P S) where
  pub up_grow : (x y : Image) → Up P S x y → Grow P S x y
  up_grow x y u = record { size = u.size; states = λ j l. ⊎_elim (λ s. inl s) (λ s. inr (λ q. omega arith, omega arith)) (u.states j l); holders = u.holders }

  grow_used : (x y : Image) (j : ℕ) → Grow P S x y → j < P * S → get x (state j) ≢ 0 → get y (state j) ≢ 0
  grow_used x y j u l ne e = ⊎_elim (λ s. ne (sym s ∙ e)) (λ s. s.0 e) (u.states j l)

  pub grow_linked : (x y : Image) → Grow P S x y → Linked P S x → Linked P S y
  grow_linked x y u w =
      record {
        size = u.size;
        states = λ j l. ⊎_elim (λ s. rw s (w.states j l)) (λ s. omega arith) (u.states j l);
        refs = λ κ h ne.
            let e = u.holders κ h in
            let r = w.refs κ h (λ q. ne (e ∙ q)) in
            rw e (r.0, grow_used x y _ u r.0 r.1);
        free = λ j k l m e.
            u.holders (field j k) (a_field l m) ∙
            ⊎_elim (λ s. w.free j k l m (sym s ∙ e)) (λ s. absurd (s.0 e)) (u.states j l);
      }

  pub up_linked : (x y : Image) → Up P S x y → Linked P S x → Linked P S y
  up_linked x y u w = grow_linked x y (up_grow x y u) w

  -- the moves that go up
  pub up_plain : (x : Image) (κ : Key) (v : ℕ) → Plain (P * S) κ → Sized (P * S) x → Up P S x (put x κ v)
  up_plain x κ v p z =
      record {
        size = sized_put _ x κ v z;
        states = λ j l. inl (get_put_other (P * S) x κ v (state j) (plain_in p) l (plain_state p j));
        flags = λ q l. inl (get_put_other (P * S) x κ v (flag q) (plain_in p) (omega arith) (plain_flag p q));
        holders = λ μ h. get_put_other (P * S) x κ v μ (plain_in p) (holder_in h) (plain_holder p h);
      }

  pub up_unclean : (x : Image) → Sized (P * S) x → Up P S x (unclean x)
  up_unclean x z =
      record {
        size = sized_unclean (P * S) x z;
        states = λ j l. inl (unclean_other x (state j) tt (λ p. refl));
        flags = λ p l. inr (unclean_flag (P * S) x z p (omega arith));
        holders = λ κ h. unclean_other x κ (in_fits (P * S) κ (holder_in h)) (λ p. flag_holder h p);
      }

  abbrev pub new_mark : Image → ℕ → Image
  new_mark x i = put (put x (flag (part_of S i)) 0) (state i) 2

  -- reads after it
  module _ (x : Image) (i : ℕ) (l : i < P * S) (z : Sized (P * S) x) where
    pub part_small : part_of S i < 16
    part_small = omega (arith, parts P S limits.some_slot i l)

    pub new_mark_other : (μ : Key) → In (P * S) μ → same (state i) μ ≡ false → same (flag (part_of S i)) μ ≡ false → get (new_mark x i) μ ≡ get x μ
    new_mark_other μ m e f =
        get_put_other (P * S) (put x (flag (part_of S i)) 0) (state i) 2 μ l m e ∙ get_put_other (P * S) x (flag (part_of S i)) 0 μ part_small m f

    pub new_mark_state : get (new_mark x i) (state i) ≡ 2
    new_mark_state = get_put_same (P * S) (put x (flag (part_of S i)) 0) (state i) 2 (sized_put _ _ _ _ z) l

    pub new_mark_flag : get (new_mark x i) (flag (part_of S i)) ≡ 0
    new_mark_flag = get_put_other (P * S) (put x (flag (part_of S i)) 0) (state i) 2 (flag (part_of S i)) l part_small refl ∙ get_put_same (P * S) x (flag (part_of S i)) 0 z part_small

    pub up_new_mark : Up P S x (new_mark x i)
    up_new_mark =
        record {
          size = sized_put _ _ _ _ (sized_put _ _ _ _ z);
          states = λ j m. go j m (ℕ_discrete i j);
          flags = λ q m. pick q m (ℕ_discrete (part_of S i) q);
          holders = λ κ h. new_mark_other κ (holder_in h) (state_holder h i) (flag_holder h (part_of S i));
        }
      where
        go : (j : ℕ) → j < P * S → Dec (i ≡ j) → (get (new_mark x i) (state j) ≡ get x (state j)) ⊎ ((get (new_mark x i) (state j) ≡ 2) × ((get (new_mark x i) (flag (part_of S j)) ≡ 0) ⊎ ((k : ℕ) → k < 4 → get x (field j k) ≡ 0)))
        go j m (yes e) = inr (rw (← e) (new_mark_state, inl new_mark_flag))
        go j m (no e) = inl (new_mark_other (state j) m (ne_eqb i j e) refl)

        pick : (q : ℕ) → q < P → Dec (part_of S i ≡ q) → (get (new_mark x i) (flag q) ≡ get x (flag q)) ⊎ (get (new_mark x i) (flag q) ≡ 0)
        pick q m (yes e) = inr (rw (← e) new_mark_flag)
        pick q m (no e) = inl (new_mark_other (flag q) (omega arith) refl (ne_eqb (part_of S i) q e))

  pub mark_keeps : (Q : Image → Type 0) (x : Image) (i : ℕ) → (get x (state i) ≡ 1 → Q (new_mark x i)) → (get x (state i) ≢ 1 → Q x) → Q (mark S x i)
  unfolding mark
  mark_keeps Q x i h k = go (eqb (get x (state i)) 1) refl
    where
      go : (b : Bool) → eqb (get x (state i)) 1 ≡ b → Q (cond b (new_mark x i) x)
      go true e = h (eqb-true _ _ e)
      go false e = k (eqb-false _ _ e)

  -- a reference stored, to Nothing or to an object in use
  module _ (x : Image) (κ : Key) (w : ℕ) (h : Holder (P * S) κ) (z : Sized (P * S) x) where
    pub refer_state : (j : ℕ) → get (refer S x κ w) (state j) ≡ get x (state j)
    refer_state j = refer_apart S x κ w (state j) (in_fits (P * S) κ (holder_in h)) tt (holder_state h j)

    pub refer_flag : (p : ℕ) → p < 16 → get (refer S x κ w) (flag p) ≡ get x (flag p)
    refer_flag p l = refer_apart S x κ w (flag p) (in_fits (P * S) κ (holder_in h)) l (holder_flag h p)

    pub refer_head : (j : ℕ) → j < 5 → get (refer S x κ w) (head j) ≡ get x (head j)
    refer_head j l = refer_apart S x κ w (head j) (in_fits (P * S) κ (holder_in h)) l (holder_head h j)

    pub refer_read : (μ : Key) → Holder (P * S) μ → ((get (refer S x κ w) μ ≡ w) × (κ ≡ μ)) ⊎ (get (refer S x κ w) μ ≡ get x μ)
    refer_read μ g =
        ⊎_elim (λ e. inl (rw (← e) (refer_same (P * S) S x κ w z (holder_in h)), e)) (λ e. inr (refer_apart S x κ w μ (in_fits (P * S) κ (holder_in h)) (in_fits (P * S) μ (holder_in g)) e)) (holder_same h g)

    pub linked_refer : ((i k : ℕ) → κ ≡ field i k → get x (state i) ≢ 0) → (w ≢ 0 → (place_of S w < P * S) × (get x (state (place_of S w)) ≢ 0)) → Linked P S x → Linked P S (refer S x κ w)
    linked_refer busy ok sd =
        record {
          size = sized_refer _ _ _ _ _ z;
          states = λ j l. rw (refer_state j) (sd.states j l);
          refs = λ μ g ne.
              ⊎_elim (λ r. let t = ok (λ q. ne (r.0 ∙ q)) in rw r.0 (t.0, λ q. t.1 (sym (refer_state _) ∙ q)))
              (λ r. let t = sd.refs μ g (λ q. ne (r ∙ q)) in rw r (t.0, λ q. t.1 (sym (refer_state _) ∙ q)))
              (refer_read μ g);
          free = λ i k l m e.
              ⊎_elim (λ r. absurd (busy i k r.1 (sym (refer_state i) ∙ e))) (λ r. r ∙ sd.free i k l m (sym (refer_state i) ∙ e)) (refer_read (field i k) (a_field l m));
        }
