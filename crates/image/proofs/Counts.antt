-- What counts need where a reference is stored or goes: they are right, so the one that falls is above 0, and the one that rises has room.
-- Assumes nothing.
use Prim.Native.Nat.{ℕ, ◌+◌, ◌*◌, ◌-◌, ◌≤◌, ◌<◌}
use mathlib.Core.Path.{◌≡◌, refl, ap, ◌∙◌}
use mathlib.Core.Bool.{Bool, true, false, cond}
use mathlib.Core.Logic.{◌≢◌}
use native.Mathlib.Omega.{arith}
use lib.Dec.{eqb}
use lib.ListN.{length, get_or, set}
use lib.Seq.{get_or-set_same}
use Rattle.std.specs.Prelude.{Option, Some, None}
use borrow.Author.Tests.{eq-eqb, ne_eqb, eqb-false, not-true}
use Rattle.loops.specs.Loop.{both, bit}
use Rattle.loops.proofs.Tests.{both_true}
use Rattle.model.specs.Image.{Image, Key, inlist, field, front, stride, addr, get, put, place_of, part_of, abroad, one_less, one_more, lose, gain, recount, refer, release, a_field}
use Rattle.model.specs.Sound.{points}
use Rattle.model.proofs.Keys.{Has, has_put, lose_keeps}
use Rattle.model.proofs.Places.{row_part, part_row}
use Rattle.model.proofs.Counting.{counted, count_most, lose_read}
use Rattle.image.specs.Within.{Within, count_at, Changes, Changed, Loses, Gains}
use Rattle.image.proofs.Within.{Leads, places, has_word}

abroad_some : (S j w : ℕ) → abroad S j w ≡ true → w ≢ 0
unfolding abroad
abroad_some S j w e = eqb-false _ _ (not-true _ (both_true _ _ e).0)

-- where a word's count stands: nowhere if it names nothing, or an object of the same partition
pub at_nothing : (S j w : ℕ) → w ≡ 0 → None ≡ count_at S j w
unfolding count_at abroad
at_nothing S j w e = rw e

-- a word that names an object of partition q, which has the places from q·S on: nowhere if j is one of these, else at the object's count
module _ (S j w t q : ℕ) (pos : 0 < S) (some : w ≢ 0) (e : t ≡ place_of S w) (f : q ≡ part_of S (place_of S w)) where
  pub at_near : q * S ≤ j → j < q * S + S → None ≡ count_at S j w
  unfolding count_at abroad
  at_near a b = rw (ne_eqb w 0 some, ← f, eq-eqb (part_of S j) q (row_part S q j pos a b))

  pub at_far : (q * S ≤ j → j < q * S + S → ⊥) → ◌≡◌ {A = Option ℕ} (Some (front + stride * t + 6)) (count_at S j w)
  unfolding count_at abroad addr
  at_far out = rw (ne_eqb w 0 some, ← f, ← e, ne_eqb (part_of S j) q (λ r. let h = part_row S q j pos r in out h.0 h.1))

-- that a count stands there, or none
at_none : (S j w : ℕ) → None ≡ count_at S j w → abroad S j w ≡ false
unfolding count_at
at_none S j w e = go (abroad S j w) e
  where
    go : (b : Bool) → None ≡ cond b (Some (addr (inlist (place_of S w)))) None → b ≡ false
    go true q = absurd (cc)
    go false q = refl

at_some : (S j w at : ℕ) → Some at ≡ count_at S j w → (abroad S j w ≡ true) × (at ≡ addr (inlist (place_of S w)))
unfolding count_at
at_some S j w at e = go (abroad S j w) e
  where
    go : (b : Bool) → Some at ≡ cond b (Some (addr (inlist (place_of S w)))) None → (b ≡ true) × (at ≡ addr (inlist (place_of S w)))
    go true q = (refl, cc)
    go false q = absurd (cc)

-- what a change knows of it
module _ {Q : ℕ → Type 0} {S j w : ℕ} {x : Image} (h : Changes Q S j w x) (at : ℕ) (e : Some at ≡ count_at S j w) where
  pub at_in : at < length x
  unfolding Has
  at_in = let s = at_some S j w at e in rw s.1 (h.inside s.0)

  pub at_fits : Q (get_or x at 0)
  unfolding get
  at_fits = let s = at_some S j w at e in rw s.1 (h.fits s.0)

module _ {R : ℕ → ℕ → Type 0} (S j w : ℕ) (x : Image) where
  pub unchanged : None ≡ count_at S j w → Changed R S j w x x
  unchanged e = let a = at_none S j w e in record { elsewhere = λ z. refl; changed = λ z. absurd (cc (a, z)); alone = λ z. absurd (cc (a, z)) }

  pub changed_at : (at v : ℕ) → Some at ≡ count_at S j w → at < length x → R (get_or x at 0) v → Changed R S j w x (set x at v)
  unfolding get put
  changed_at at v e l r =
      let s = at_some S j w at e in
      let new : get_or (set x at v) at 0 ≡ v = get_or-set_same x at v 0 l in
      record {
        elsewhere = λ z. absurd (cc (s.0, z));
        changed = λ z. rw (← s.1, new) r;
        alone = λ z. rw (← s.1, new);
      }

-- by one less it is lost, by one more it is gained
module _ (S j w : ℕ) (x y : Image) where
  pub lost : Changed (λ c d. d ≡ c - 1) S j w x y → y ≡ lose S j w x
  unfolding lose
  lost h = go (abroad S j w) refl
    where
      go : (b : Bool) → abroad S j w ≡ b → y ≡ cond b (one_less S w x) x
      go true e = h.alone e ∙ ap (put x (inlist (place_of S w))) (h.changed e)
      go false e = h.elsewhere e

  pub gained : Changed (λ c d. d ≡ c + 1) S j w x y → y ≡ gain S j w x
  unfolding gain
  gained h = go (abroad S j w) refl
    where
      go : (b : Bool) → abroad S j w ≡ b → y ≡ cond b (one_more S w x) x
      go true e = h.alone e ∙ ap (put x (inlist (place_of S w))) (h.changed e)
      go false e = h.elsewhere e

gain_none : (S j w : ℕ) (x : Image) → abroad S j w ≡ false → x ≡ gain S j w x
unfolding gain
gain_none S j w x e = rw e

module _ {P S : ℕ} {x : Image} (h : Within P S x) (j k : ℕ) (lj : j < P * S) (lk : k < 4) where
  inside : (w : ℕ) → Leads (P * S) S w → w ≢ 0 → Has x (inlist (place_of S w))
  inside w l ne = has_word P S x h (inlist (place_of S w)) (l ne)

  pub loses : Loses S j (get x (field j k)) x
  unfolding points
  loses =
      let w : ℕ = get x (field j k) in
      record {
        some_slot = h.limits.some_slot;
        wide = h.limits.slots_most;
        inside = λ e. inside w (h.refs (field j k) (a_field lj lk)) (abroad_some S j w e);
        fits = λ e.
            let t = place_of S w in
            let b : bit (both (abroad S j w) (eqb t t)) ≡ 1 = rw (e, eq-eqb t t refl) in
            let u = counted (P * S) S x j k t lj lk in
            let r = h.right.counts t (h.refs (field j k) (a_field lj lk) (abroad_some S j w e)) in
            omega arith;
      }

  pub gains : (w : ℕ) → Leads (P * S) S w → (y : Image) → y ≡ lose S j (get x (field j k)) x → Gains S j w y
  gains w l y e =
      record {
        some_slot = h.limits.some_slot;
        wide = h.limits.slots_most;
        inside = λ a. rw e (lost_has (inlist (place_of S w)) (inside w l (abroad_some S j w a)));
        fits = λ a.
            let t = place_of S w in
            let lt = l (abroad_some S j w a) in
            let q = lose_read (P * S) S x j (get x (field j k)) t h.long lt in
            let r = h.right.counts t lt in
            let m = count_most (P * S) S x t in
            let b = places h in
            rw e (omega arith);
      }
    where
      lost_has : (κ : Key) → Has x κ → Has (lose S j (get x (field j k)) x) κ
      lost_has κ u = lose_keeps (λ z. Has z κ) S j (get x (field j k)) x (λ q. has_put x _ _ κ u) (λ q. u)

-- both together, with the field's own word
pub referred : (S : ℕ) (x : Image) (j k w : ℕ) (y z : Image) → y ≡ lose S j (get x (field j k)) x → z ≡ gain S j w y → put z (field j k) w ≡ refer S x (field j k) w
unfolding refer recount
referred S x j k w y z a b = rw (b, a)

pub released : (S : ℕ) (x : Image) (j k : ℕ) (y : Image) → y ≡ lose S j (get x (field j k)) x → put y (field j k) 0 ≡ release S x (field j k)
unfolding release recount abroad
released S x j k y a = ap (λ (v : Image). put v (field j k) 0) (a ∙ gain_none S j 0 _ refl)
