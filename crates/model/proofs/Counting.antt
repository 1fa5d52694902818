-- Counts: one field changes, one count changes; and counts that are right stay right, whatever act is performed.
-- Assumes nothing.
use Prim.Native.Nat.{ℕ, zero, suc, ◌+◌, ◌*◌, ◌-◌, ◌/◌, ◌%◌, ◌≤◌, ◌<◌}
use mathlib.Core.Path.{◌≡◌, refl, sym, ap, ◌∙◌}
use mathlib.Core.Bool.{Bool, true, false, not}
use mathlib.Core.Logic.{◌≢◌, ⊎_elim}
use native.Mathlib.Omega.{arith}
use native.Mathlib.Decide.{ℕ_discrete}
use lib.Dec.{eqb}
use borrow.Author.Tests.{eqb-true, eqb-false, eq-eqb, ne_eqb, not-true}
use Rattle.loops.specs.Loop.{both, bit, tally}
use Rattle.loops.proofs.Tests.{both_true, eq_or_ne}
use Rattle.loops.proofs.Loops.{tally_same, tally_move, tally_some, tally_le}
use Rattle.loops.proofs.Walks.{tally_none_pass}
use Rattle.model.specs.Image.{Image, Key, head, anchor, flag, state, payload, inlist, field, get, put, place_of, part_of, abroad, one_less, one_more, lose, gain, recount, refer, release, Holder, an_anchor, a_field}
use Rattle.model.specs.Chains.{NamedAbroad}
use Rattle.model.specs.Sound.{points, in_count, Right, SoundAt}
use Rattle.model.proofs.Keys.{Fits, Sized, same, get_put_apart, get_put_same, sized_put, refer_apart, refer_same, sized_refer, release_apart, release_same, sized_release, lose_keeps, gain_keeps}
use Rattle.model.proofs.Holders.{holder_same}
use Rattle.model.proofs.Making.{Word, head_word, flag_word, state_word, payload_word, Made, as_is, worded, referred, released}

bit_in : (n : ℕ) (f : ℕ → Bool) (i : ℕ) → i < n → bit (f i) ≤ tally n f
bit_in n f i l = go (f i) refl
  where
    go : (b : Bool) → f i ≡ b → bit b ≤ tally n f
    go true e = tally_some n f i l e
    go false e = omega arith

-- a word that is nothing points nowhere
pub points_nothing : (S j i : ℕ) → points S j 0 i ≡ false
unfolding points abroad
points_nothing S j i = refl

module _ (n S : ℕ) where
  -- what a loss and a gain do to one count
  pub lose_read : (x : Image) (j w i : ℕ) → Sized n x → i < n → get (lose S j w x) (inlist i) ≡ get x (inlist i) - bit (points S j w i)
  unfolding points
  lose_read x j w i z l =
      lose_keeps (λ y. get y (inlist i) ≡ get x (inlist i) - bit (both (abroad S j w) (eqb (place_of S w) i))) S j w x (λ e. rw e (go (ℕ_discrete (place_of S w) i))) (λ e. rw e (omega arith))
    where
      go : Dec (place_of S w ≡ i) → get (one_less S w x) (inlist i) ≡ get x (inlist i) - bit (eqb (place_of S w) i)
      go (yes q) = rw (q, eq-eqb i i refl) (get_put_same n x (inlist i) _ z l)
      go (no q) = rw (ne_eqb _ _ q) (get_put_apart x (inlist (place_of S w)) _ (inlist i) tt tt (ne_eqb _ _ q) ∙ omega arith)

  pub gain_read : (x : Image) (j w i : ℕ) → Sized n x → i < n → get (gain S j w x) (inlist i) ≡ get x (inlist i) + bit (points S j w i)
  unfolding points
  gain_read x j w i z l =
      gain_keeps (λ y. get y (inlist i) ≡ get x (inlist i) + bit (both (abroad S j w) (eqb (place_of S w) i))) S j w x (λ e. rw e (go (ℕ_discrete (place_of S w) i))) (λ e. rw e (omega arith))
    where
      go : Dec (place_of S w ≡ i) → get (one_more S w x) (inlist i) ≡ get x (inlist i) + bit (eqb (place_of S w) i)
      go (yes q) = rw (q, eq-eqb i i refl) (get_put_same n x (inlist i) _ z l)
      go (no q) = rw (ne_eqb _ _ q) (get_put_apart x (inlist (place_of S w)) _ (inlist i) tt tt (ne_eqb _ _ q) ∙ omega arith)

  -- the words that counts are read from
  pub count_reads : (x y : Image) → ((j k : ℕ) → j < n → k < 4 → get x (field j k) ≡ get y (field j k)) → (i : ℕ) → in_count S n x i ≡ in_count S n y i
  unfolding in_count
  count_reads x y f i = tally_same (4 * n) _ _ (λ h lh. ap (λ (v : ℕ). points S (h / 4) v i) (f (h / 4) (h % 4) (omega arith) (omega arith)))

  pub right_reads : (x y : Image) → ((j k : ℕ) → k < 4 → get y (field j k) ≡ get x (field j k)) → ((i : ℕ) → get y (inlist i) ≡ get x (inlist i)) → Right n S x → Right n S y
  right_reads x y f c r = record { counts = λ i l. c i ∙ r.counts i l ∙ count_reads x y (λ j k lj m. sym (f j k m)) i }

  -- a reference that is there is counted
  pub counted : (x : Image) (j k i : ℕ) → j < n → k < 4 → bit (points S j (get x (field j k)) i) ≤ in_count S n x i
  unfolding in_count
  counted x j k i l m =
      let d : (4 * j + k) / 4 ≡ j = omega arith in
      let r : (4 * j + k) % 4 ≡ k = omega arith in
      rw (d, r) at (bit_in (4 * n) (λ f. points S (f / 4) (get x (field (f / 4) (f % 4))) i) (4 * j + k) (omega arith))

  -- a count is at most the number of fields
  pub count_most : (x : Image) (i : ℕ) → in_count S n x i ≤ 4 * n
  unfolding in_count
  count_most x i = tally_le (4 * n) _

  -- one field changes, by whatever means
  pub count_change : (x y : Image) (j k w i : ℕ) → j < n → k < 4 → get y (field j k) ≡ w
      → ((i c : ℕ) → c < 4 → same (field j k) (field i c) ≡ false → get y (field i c) ≡ get x (field i c))
      → in_count S n y i + bit (points S j (get x (field j k)) i) ≡ in_count S n x i + bit (points S j w i)
  unfolding in_count
  count_change x y j k w i l m own others =
      rw (d, r, own) at
      (tally_move (4 * n) (λ f. points S (f / 4) (get x (field (f / 4) (f % 4))) i) (λ f. points S (f / 4) (get y (field (f / 4) (f % 4))) i) (4 * j + k) (omega arith)
      (λ f lf ne. ap (λ (v : ℕ). points S (f / 4) v i) (sym (other f lf ne))))
    where
      d : (4 * j + k) / 4 ≡ j
      d = omega arith

      r : (4 * j + k) % 4 ≡ k
      r = omega arith

      other : (f : ℕ) → f < 4 * n → (f ≡ 4 * j + k → ⊥) → get y (field (f / 4) (f % 4)) ≡ get x (field (f / 4) (f % 4))
      other f lf ne =
          let lo : f % 4 < 4 = omega arith in
          ⊎_elim (λ e. absurd (ne (let a : j ≡ f / 4 = cc in let b : k ≡ f % 4 = cc in omega arith))) (λ e. others (f / 4) (f % 4) lo e)
          (holder_same {n = n} {κ = field j k} {μ = field (f / 4) (f % 4)} (a_field l m) (a_field (omega arith) lo))

  -- a word that is no reference and no count
  pub right_put : (x : Image) (κ : Key) (v : ℕ) → Fits κ → ((j k : ℕ) → same κ (field j k) ≡ false) → ((i : ℕ) → same κ (inlist i) ≡ false) → Right n S x → Right n S (put x κ v)
  right_put x κ v f a b r = right_reads x (put x κ v) (λ j k m. get_put_apart x κ v (field j k) f m (a j k)) (λ i. get_put_apart x κ v (inlist i) f tt (b i)) r

  -- what a reference stored and a reference released do to one count
  recounted : (x : Image) (j k w i : ℕ) → Sized n x → i < n → get (recount S x (field j k) w) (inlist i) ≡ get x (inlist i) - bit (points S j (get x (field j k)) i) + bit (points S j w i)
  unfolding recount
  recounted x j k w i z li =
      let old = get x (field j k) in
      gain_read (lose S j old x) j w i (lose_keeps (Sized n) S j old x (λ e. sized_put _ _ _ _ z) (λ e. z)) li ∙ ap (λ (c : ℕ). c + bit (points S j w i)) (lose_read x j old i z li)

  inlist_refer : (x : Image) (j k w i : ℕ) → k < 4 → Sized n x → i < n → get (refer S x (field j k) w) (inlist i) ≡ get x (inlist i) - bit (points S j (get x (field j k)) i) + bit (points S j w i)
  unfolding refer
  inlist_refer x j k w i m z li = get_put_apart (recount S x (field j k) w) (field j k) w (inlist i) m tt refl ∙ recounted x j k w i z li

  inlist_release : (x : Image) (j k i : ℕ) → k < 4 → Sized n x → i < n → get (release S x (field j k)) (inlist i) ≡ get x (inlist i) - bit (points S j (get x (field j k)) i) + bit (points S j 0 i)
  unfolding release
  inlist_release x j k i m z li = get_put_apart (recount S x (field j k) 0) (field j k) 0 (inlist i) m tt refl ∙ recounted x j k 0 i z li

  pub right_refer : (x : Image) (κ : Key) (w : ℕ) → Holder n κ → Sized n x → Right n S x → Right n S (refer S x κ w)
  right_refer x _ w (an_anchor {a = r} l) z q = right_reads x _ (λ i k m. refer_apart S x (anchor r) w (field i k) l m refl) (λ i. refer_apart S x (anchor r) w (inlist i) l tt refl) q
  right_refer x _ w (a_field {j = j} {k = k} l m) z q =
      record {
        counts = λ i li.
            let a = inlist_refer x j k w i m z li in
            let b = count_change x (refer S x (field j k) w) j k w i l m (refer_same n S x (field j k) w z (l, m)) (λ e d ld r. refer_apart S x (field j k) w (field e d) m ld r) in
            let c = q.counts i li in
            let d = counted x j k i l m in
            omega arith;
      }

  pub right_release : (x : Image) (κ : Key) → Holder n κ → Sized n x → Right n S x → Right n S (release S x κ)
  right_release x _ (an_anchor {a = r} l) z q = right_reads x _ (λ i k m. release_apart S x (anchor r) (field i k) l m refl) (λ i. release_apart S x (anchor r) (inlist i) l tt refl) q
  right_release x _ (a_field {j = j} {k = k} l m) z q =
      record {
        counts = λ i li.
            let a = inlist_release x j k i m z li in
            let b = count_change x (release S x (field j k)) j k 0 i l m (release_same n S x (field j k) z (l, m)) (λ e d ld r. release_apart S x (field j k) (field e d) m ld r) in
            let c = q.counts i li in
            let d = counted x j k i l m in
            omega arith;
      }

  right_word : (x : Image) (κ : Key) (v : ℕ) → Word κ → Right n S x → Right n S (put x κ v)
  right_word x _ v (head_word {h = h} a b) r = right_put x (head h) v b (λ j k. refl) (λ i. refl) r
  right_word x _ v (flag_word {p = p} a) r = right_put x (flag p) v a (λ j k. refl) (λ i. refl) r
  right_word x _ v (state_word {j = j}) r = right_put x (state j) v tt (λ j k. refl) (λ i. refl) r
  right_word x _ v (payload_word {j = j}) r = right_put x (payload j) v tt (λ j k. refl) (λ i. refl) r

  -- every act keeps the counts right
  abbrev SizedRight : Image → Type 0
  SizedRight x = Sized n x × Right n S x

  right_kept : {x y : Image} → Made n S x y → SizedRight x → SizedRight y
  right_kept as_is q = q
  right_kept (worded {y = y} {κ = κ} v w m) q = let r = right_kept m q in (sized_put n y κ v r.0, right_word y κ v w r.1)
  right_kept (referred {y = y} {κ = κ} w h b m) q = let r = right_kept m q in (sized_refer n S y κ w r.0, right_refer y κ w h r.0 r.1)
  right_kept (released {y = y} {κ = κ} h m) q = let r = right_kept m q in (sized_release n S y κ r.0, right_release y κ h r.0 r.1)

  pub right_made : {x y : Image} → Made n S x y → Sized n x → Right n S x → Right n S y
  right_made m z r = (right_kept m (z, r)).1

  -- where no field holds a word, no object is counted
  pub right_blank : (x : Image) → ((j k : ℕ) → k < 4 → get x (field j k) ≡ 0) → ((i : ℕ) → get x (inlist i) ≡ 0) → Right n S x
  unfolding in_count
  right_blank x f c =
      record {
        counts = λ i l.
            c i ∙
            sym (tally_none_pass (4 * n) _
            (λ h lh. let lo : h % 4 < 4 = omega arith in ap (λ (v : ℕ). points S (h / 4) v i) (f (h / 4) (h % 4) lo) ∙ points_nothing S (h / 4) i));
      }

-- a count is above 0 exactly where a field of an object in another partition names the object
tally_find : (n : ℕ) (f : ℕ → Bool) → tally n f ≢ 0 → (i : ℕ) × (i < n) × (f i ≡ true)
unfolding tally
tally_find zero f ne = absurd (ne refl)
tally_find (suc n) f ne = go (f n) refl (tally_find n f)
  where
    go : (b : Bool) → f n ≡ b → (tally n f ≢ 0 → (i : ℕ) × (i < n) × (f i ≡ true)) → (i : ℕ) × (i < suc n) × (f i ≡ true)
    go true e h = (n, omega arith, e)
    go false e h = let r = h (λ z. ne (rw (z, e))) in (r.0, omega (arith, r.1), r.2)

module _ (n S : ℕ) (x : Image) (right : Right n S x) (i : ℕ) (l : i < n) where
  pub counted_abroad : get x (inlist i) ≢ 0 → NamedAbroad n S x i
  unfolding in_count points abroad
  counted_abroad ne =
      let f = tally_find (4 * n) (λ f. points S (f / 4) (get x (field (f / 4) (f % 4))) i) (λ z. ne (right.counts i l ∙ z)) in
      found (f.0 / 4) (f.0 % 4) (omega (arith, f.1)) (omega arith) f.2
    where
      found : (j k : ℕ) → j < n → k < 4 → both (both (not (eqb (get x (field j k)) 0)) (not (eqb (part_of S j) (part_of S (place_of S (get x (field j k))))))) (eqb (place_of S (get x (field j k))) i) ≡ true
          → NamedAbroad n S x i
      found j k lj lk q =
          let a = both_true (both (not (eqb (get x (field j k)) 0)) (not (eqb (part_of S j) (part_of S (place_of S (get x (field j k))))))) _ q in
          let c = both_true (not (eqb (get x (field j k)) 0)) _ a.0 in
          let t : place_of S (get x (field j k)) ≡ i = eqb-true _ _ a.1 in
          record {
            holder = j;
            k = k;
            place = lj;
            small = lk;
            elsewhere = λ e. eqb-false _ _ (not-true _ c.1) (e ∙ ap (part_of S) (sym t));
            names = record { some = eqb-false _ _ (not-true _ c.0); target = t };
          }

  pub abroad_counted : NamedAbroad n S x i → get x (inlist i) ≢ 0
  unfolding points abroad
  abroad_counted h z =
      let j = h.holder in
      let k = h.k in
      let one : points S j (get x (field j k)) i ≡ true =
      rw (ne_eqb (get x (field j k)) 0 h.names.some, h.names.target, ne_eqb (part_of S j) (part_of S i) h.elsewhere, eq-eqb i i refl) in
      let b : bit (points S j (get x (field j k)) i) ≡ 1 = rw one in
      let u = counted n S x j k i h.place h.small in
      let w = right.counts i l in
      omega arith

-- the seventh zero of a free slot: nothing names it, so it is counted 0
pub free_count : (P S : ℕ) (x : Image) (i : ℕ) → SoundAt P S x → i < P * S → get x (state i) ≡ 0 → get x (inlist i) ≡ 0
free_count P S x i s l e =
    ⊎_elim (λ z. z) (λ ne. let h = counted_abroad (P * S) S x s.right i l ne in absurd ((s.references _ (a_field h.place h.small) h.names.some).in_use (rw h.names.target e)))
    (eq_or_ne (get x (inlist i)) 0)
