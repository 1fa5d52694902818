-- What a local collection of p keeps: exactly what a root or a handle names, what a field of another partition names, and what chains inside p lead to
-- from there; and with right counts every root, every handle and every object that stays refers to what stays, so no object to which a root or a handle
-- leads is freed.
-- Assumes nothing.
use Prim.Native.Nat.{ℕ, ◌+◌, ◌*◌, ◌<◌}
use mathlib.Core.Path.{◌≡◌, refl, ◌∙◌, subst}
use mathlib.Core.Bool.{Bool, true, false, not}
use mathlib.Core.Logic.{◌≢◌, ◌⊎◌, inl, inr, ⊎_elim}
use native.Mathlib.Omega.{arith}
use native.Mathlib.Decide.{ℕ_discrete}
use lib.Dec.{eqb}
use lib.ListN.{replicate}
use borrow.Author.Tests.{eqb-true, eqb-false, eq-eqb, ne_eqb, not-true}
use Rattle.loops.specs.Loop.{both}
use Rattle.loops.proofs.Tests.{both_true}
use Rattle.model.specs.Image.{Image, Key, anchor, inlist, field, anchors, get, place_of, part_of, Holder, an_anchor, a_field}
use Rattle.model.specs.Spread.{Reach, start, step}
use Rattle.model.specs.Questions.{Bits, has_bit, add_bit, collect, held, held_at}
use Rattle.model.specs.Acts.{refers, target, own, local_start, local_bits}
use Rattle.model.specs.Chains.{Names, Leads}
use Rattle.model.specs.Effects.{KeptIn}
use Rattle.model.specs.Sound.{Right}
use Rattle.model.proofs.Places.{slot_in, slot_of, part_of_lem}
use Rattle.model.proofs.Spreading.{Spreads, Edge, spread_grown, closed, least}
use Rattle.model.proofs.Bits.{Wide, bit_spreads, collect_wide, collect_only, collect_has, collect_more, none_wide, none_has}
use Rattle.model.proofs.Asking.{named_in}
use Rattle.model.proofs.Counting.{abroad_counted}

kept_own : {S p : ℕ} {x : Image} {t : ℕ} → KeptIn S p x t → part_of S t ≡ p
kept_own (start h) = h.0
kept_own (step c e) = e.3

-- all that is asked of the image is that references lead to places
module _ (P S : ℕ) (pos : 0 < S) (p : ℕ) (inp : p < P) (x : Image) (refs : (κ : Key) → Holder (P * S) κ → get x κ ≢ 0 → place_of S (get x κ) < P * S) where
  abbrev mine : ℕ → ℕ → Bool
  mine = refers S (own S p) x

  abbrev at : ℕ → ℕ
  at s = p * S + s

  pub own_in : (t : ℕ) → part_of S t ≡ p → t < P * S
  own_in t e = let s = slot_of P S pos t p e in rw (← s.2) (slot_in P S pos p s.0 inp s.1)

  mine_is : (i k : ℕ) → mine i k ≡ true → Names S x (field i k) (target S x i k) × (part_of S (target S x i k) ≡ p)
  mine_is i k e =
      let b = both_true (not (eqb (get x (field i k)) 0)) (eqb (part_of S (target S x i k)) p) e in
      (record { some = eqb-false _ _ (not-true _ b.0); target = refl }, eqb-true _ _ b.1)

  mine_so : (i k t : ℕ) → Names S x (field i k) t → part_of S t ≡ p → mine i k ≡ true
  mine_so i k t n e = rw (ne_eqb (get x (field i k)) 0 n.some, n.target, eq-eqb (part_of S t) p e)

  spreads : Spreads has_bit add_bit (λ b. mine) (λ b. target S x) at S 4 (Wide (P * S)) (λ b t. t < P * S)
  spreads = bit_spreads (P * S) mine (target S x) at S 4 (λ s k l m e. own_in _ (mine_is (at s) k e).1)

  -- the start
  abbrev anchorly : ℕ → Bool
  anchorly r = both (held x (anchor r)) (own S p (held_at S x (anchor r)))

  abbrev from_anchors : Bits
  from_anchors = collect anchors anchorly (λ r. held_at S x (anchor r)) (replicate (P * S) 0)

  anchorly_is : (r : ℕ) → anchorly r ≡ true → Names S x (anchor r) (held_at S x (anchor r)) × (part_of S (held_at S x (anchor r)) ≡ p)
  anchorly_is r e =
      let b = both_true (held x (anchor r)) (own S p (held_at S x (anchor r))) e in
      (record { some = eqb-false _ _ (not-true _ b.0); target = refl }, eqb-true _ _ b.1)

  from_wide : Wide (P * S) from_anchors
  from_wide = collect_wide (P * S) anchorly (λ r. held_at S x (anchor r)) anchors (replicate (P * S) 0) (none_wide (P * S))

  start_wide : Wide (P * S) (local_start P S p x)
  unfolding local_start
  start_wide = collect_wide (P * S) (λ s. held x (inlist (at s))) at S from_anchors from_wide

  more_named : (t : ℕ) → has_bit from_anchors t ≡ true → has_bit (local_start P S p x) t ≡ true
  unfolding local_start
  more_named t h = collect_more (P * S) (λ s. held x (inlist (at s))) at S (λ s l e. slot_in P S pos p s inp l) from_anchors t from_wide h

  start_anchor : (r t : ℕ) → r < anchors → Names S x (anchor r) t → part_of S t ≡ p → has_bit (local_start P S p x) t ≡ true
  start_anchor r t l n e =
      more_named t
      (rw n.target at
      (collect_has (P * S) anchorly (λ r. held_at S x (anchor r)) anchors (λ r lr q. own_in _ (anchorly_is r q).1) (replicate (P * S) 0) r (none_wide (P * S)) l
      (rw (ne_eqb (get x (anchor r)) 0 n.some, n.target, eq-eqb (part_of S t) p e))))

  start_named : (s : ℕ) → s < S → get x (inlist (at s)) ≢ 0 → has_bit (local_start P S p x) (at s) ≡ true
  unfolding local_start
  start_named s l ne =
      collect_has (P * S) (λ s. held x (inlist (at s))) at S (λ s l e. slot_in P S pos p s inp l) from_anchors s from_wide l (rw (ne_eqb (get x (inlist (at s))) 0 ne))

  counted_start : (t : ℕ) → part_of S t ≡ p → get x (inlist t) ≢ 0 → has_bit (local_start P S p x) t ≡ true
  counted_start t e ne = let s = slot_of P S pos t p e in subst (λ (v : ℕ). has_bit (local_start P S p x) v ≡ true) s.2 (start_named s.0 s.1 (rw s.2 ne))

  start_only : (t : ℕ) → has_bit (local_start P S p x) t ≡ true → KeptIn S p x t
  unfolding local_start
  start_only t h =
      ⊎_elim from_only (λ q. subst (KeptIn S p x) q.3 (start (part_of_lem P S pos p q.0 q.1, inr (eqb-false _ _ (not-true _ q.2)))))
      (collect_only (P * S) (λ s. held x (inlist (at s))) at S from_anchors t h)
    where
      from_only : has_bit from_anchors t ≡ true → KeptIn S p x t
      from_only g =
          ⊎_elim (λ z. absurd (none_has (P * S) t z))
          (λ q. let e = anchorly_is q.0 q.2 in subst (KeptIn S p x) q.3 (start (e.1, inl (q.0, q.1, e.0))))
          (collect_only (P * S) anchorly (λ r. held_at S x (anchor r)) anchors (replicate (P * S) 0) t g)

  more : (t : ℕ) → has_bit (local_start P S p x) t ≡ true → has_bit (local_bits P S p x) t ≡ true
  unfolding local_bits
  more t e = (spread_grown has_bit add_bit (λ b. mine) (λ b. target S x) at S 4 (Wide (P * S)) (λ b t. t < P * S) spreads (local_start P S p x) start_wide).more t e

  onward : (i k t : ℕ) → k < 4 → part_of S i ≡ p → part_of S t ≡ p → has_bit (local_bits P S p x) i ≡ true → Names S x (field i k) t → has_bit (local_bits P S p x) t ≡ true
  unfolding local_bits
  onward i k t m ei et h n =
      let s = slot_of P S pos i p ei in
      rw n.target at
      (rw s.2 at
      (closed has_bit add_bit (λ b. mine) (λ b. target S x) at S 4 (Wide (P * S)) (λ b t. t < P * S) spreads (λ i j l m q. omega arith)
      (λ b j c w l m e. slot_of P S pos _ p (mine_is (at j) c e).1) (local_start P S p x) s.0 k start_wide s.1 m (rw s.2 h) (rw s.2 (mine_so i k t n et))))

  -- exactly what the request says
  pub local_so : (t : ℕ) → KeptIn S p x t → has_bit (local_bits P S p x) t ≡ true
  local_so t (start h) = more t (⊎_elim (λ c. start_anchor c.0 t c.1 c.2 h.0) (λ ne. counted_start t h.0 ne) h.1)
  local_so t (step {i = i} c e) = onward i e.0 t e.1 (kept_own c) e.3 (local_so i c) e.2

  pub local_only : (t : ℕ) → has_bit (local_bits P S p x) t ≡ true → KeptIn S p x t
  unfolding local_bits
  local_only t h = go t (least has_bit add_bit (λ b. mine) (λ b. target S x) at S 4 (Wide (P * S)) (λ b t. t < P * S) spreads (local_start P S p x) start_wide t h)
    where
      go : (t : ℕ) → Reach (λ v. has_bit (local_start P S p x) v ≡ true) (Edge has_bit add_bit (λ b. mine) (λ b. target S x) at S 4 (local_start P S p x)) t → KeptIn S p x t
      go t (start e) = start_only t e
      go t (step {i = i} r e) =
          let q = mine_is (at e.0) e.1 e.5 in
          step {i = at e.0} (rw e.4 (go i r)) (e.1, e.3, rw e.6 at q.0, rw e.6 at q.1)

  -- what a collection does with each place
  abbrev pub bits : Bits
  bits = local_bits P S p x

  abbrev pub StaysIn : ℕ → Type 0
  StaysIn i = (j : ℕ) → j < S → at j ≡ i → has_bit bits i ≡ true

  stays_own : (i : ℕ) → part_of S i ≡ p → StaysIn i → has_bit bits i ≡ true
  stays_own i e h = let s = slot_of P S pos i p e in h s.0 s.1 s.2

  stays_far : (i : ℕ) → part_of S i ≢ p → StaysIn i
  stays_far i ne j l q = absurd (ne (rw (← q) (part_of_lem P S pos p j l)))

  pub bit_stays_in : (i : ℕ) → has_bit bits i ≡ true → StaysIn i
  bit_stays_in i h j l q = h

  pub choice : (i : ℕ) → StaysIn i ⊎ ((j : ℕ) × (j < S) × (at j ≡ i) × (has_bit bits i ≡ false))
  choice i = go (ℕ_discrete (part_of S i) p) (has_bit bits i) refl
    where
      go : Dec (part_of S i ≡ p) → (b : Bool) → has_bit bits i ≡ b → StaysIn i ⊎ ((j : ℕ) × (j < S) × (at j ≡ i) × (has_bit bits i ≡ false))
      go (no e) b h = inl (stays_far i e)
      go (yes e) true h = inl (bit_stays_in i h)
      go (yes e) false h = let s = slot_of P S pos i p e in inr (s.0, s.1, s.2, h)

  -- with right counts, roots, handles and staying objects refer only to staying ones
  module _ (right : Right (P * S) S x) where
    pub local_anchors : (r t : ℕ) → r < anchors → Names S x (anchor r) t → StaysIn t
    local_anchors r t l n = go (ℕ_discrete (part_of S t) p)
      where
        go : Dec (part_of S t ≡ p) → StaysIn t
        go (yes e) = bit_stays_in t (more t (start_anchor r t l n e))
        go (no e) = stays_far t e

    pub local_fields : (i k t : ℕ) → i < P * S → k < 4 → StaysIn i → Names S x (field i k) t → StaysIn t
    local_fields i k t l m e n = go (ℕ_discrete (part_of S t) p) (ℕ_discrete (part_of S i) p)
      where
        go : Dec (part_of S t ≡ p) → Dec (part_of S i ≡ p) → StaysIn t
        go (no a) d = stays_far t a
        go (yes a) (yes c) = bit_stays_in t (onward i k t m c a (stays_own i c e) n)
        go (yes a) (no c) =
            bit_stays_in t
            (more t
            (counted_start t a
            (abroad_counted (P * S) S x right t (own_in t a) (record { holder = i; k = k; place = l; small = m; elsewhere = λ q. c (q ∙ a); names = n }))))

    -- what a root or a handle leads to stays
    pub local_leads : (i : ℕ) → Leads S x i → (i < P * S) × StaysIn i
    local_leads i (start c) = (named_in P S x refs (anchor c.0) (an_anchor c.1) i c.2, local_anchors c.0 i c.1 c.2)
    local_leads i (step {i = j} c e) =
        let r = local_leads j c in
        (named_in P S x refs (field j e.0) (a_field r.0 e.1) i e.2, local_fields j e.0 i r.0 e.1 r.1 e.2)
