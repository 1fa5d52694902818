-- Every sound image is within its bounds, and every move keeps it there.
-- Assumes nothing.
use Prim.Native.Nat.{ℕ, ◌*◌, ◌-◌, ◌/◌, ◌%◌, ◌^◌, ◌≤◌, ◌<◌}
use mathlib.Core.Path.{◌≡◌, refl, sym, subst}
use mathlib.Core.Bool.{Bool, true, false, cond}
use mathlib.Core.Logic.{◌≢◌, ⊎_elim}
use native.Mathlib.Nat.{lt_of_lt_of_le, mul-le-mul, zero-mul, zero-div}
use native.Mathlib.Omega.{arith}
use lib.Arith.{digits_lt, digits_div}
use lib.Dec.{eqb, leb}
use lib.ListN.{length}
use borrow.Author.Tests.{eqb-false, leb-true}
use Rattle.kinds.specs.Names.{most_partitions, most_slots, radix, most_places}
use Rattle.model.specs.Image.{Image, Key, head, anchor, flag, state, payload, inlist, field, front, addr, get, put, length_of, place_of, part_of, refer, release, Holder, an_anchor, a_field}
use Rattle.model.specs.Acts.{mark, mark_word}
use Rattle.model.specs.Sound.{Limits, SoundAt, NamesUsed, Right}
use Rattle.model.proofs.Keys.{Fits, In, Has, Sized, same, touches, has, get_put_apart, sized_put, sized_length, refer_apart, refer_same, sized_refer, release_apart, release_same, sized_release}
use Rattle.model.proofs.Holders.{holder_in, holder_same}
use Rattle.model.proofs.Places.{parts}
use Rattle.model.proofs.Counting.{right_put, right_refer, right_release}
use Rattle.image.specs.Within.{Within}

-- a key that holds no reference
abbrev pub Plain : Key → Type 0
Plain (head h) = h < 5
Plain (anchor r) = ⊥
Plain (flag p) = p < most_partitions
Plain (state j) = Unit {0}
Plain (payload j) = Unit {0}
Plain (inlist j) = ⊥
Plain (field j k) = ⊥

-- a reference word that leads to one of n places, if to any
abbrev pub Leads : ℕ → ℕ → ℕ → Type 0
Leads n S w = w ≢ 0 → place_of S w < n

plain_fits : (κ : Key) → Plain κ → Fits κ
plain_fits (head h) f = f
plain_fits (anchor r) f = absurd f
plain_fits (flag p) f = f
plain_fits (state j) f = tt
plain_fits (payload j) f = tt
plain_fits (inlist j) f = absurd f
plain_fits (field j k) f = absurd f

plain_apart : (n : ℕ) (κ μ : Key) → Plain κ → Holder n μ → same κ μ ≡ false
plain_apart n (head h) (anchor r) f (an_anchor l) = refl
plain_apart n (head h) (field j k) f (a_field l m) = refl
plain_apart n (anchor r) μ f h = absurd f
plain_apart n (flag p) (anchor r) f (an_anchor l) = refl
plain_apart n (flag p) (field j k) f (a_field l m) = refl
plain_apart n (state i) (anchor r) f (an_anchor l) = refl
plain_apart n (state i) (field j k) f (a_field l m) = refl
plain_apart n (payload i) (anchor r) f (an_anchor l) = refl
plain_apart n (payload i) (field j k) f (a_field l m) = refl
plain_apart n (inlist j) μ f h = absurd f
plain_apart n (field j k) μ f h = absurd f
plain_apart n (head h) (head _) f x5 = elim x5 [ ]
plain_apart n (head h) (flag _) f x6 = elim x6 [ ]
plain_apart n (head h) (state _) f x7 = elim x7 [ ]
plain_apart n (head h) (payload _) f x8 = elim x8 [ ]
plain_apart n (head h) (inlist _) f x9 = elim x9 [ ]
plain_apart n (flag p) (head _) f h = elim h [ ]
plain_apart n (flag p) (flag _) f h = elim h [ ]
plain_apart n (flag p) (state _) f h = elim h [ ]
plain_apart n (flag p) (payload _) f h = elim h [ ]
plain_apart n (flag p) (inlist _) f h = elim h [ ]
plain_apart n (state i) (head _) f h = elim h [ ]
plain_apart n (state i) (flag _) f h = elim h [ ]
plain_apart n (state i) (state _) f h = elim h [ ]
plain_apart n (state i) (payload _) f h = elim h [ ]
plain_apart n (state i) (inlist _) f h = elim h [ ]
plain_apart n (payload i) (head _) f h = elim h [ ]
plain_apart n (payload i) (flag _) f h = elim h [ ]
plain_apart n (payload i) (state _) f h = elim h [ ]
plain_apart n (payload i) (payload _) f h = elim h [ ]
plain_apart n (payload i) (inlist _) f h = elim h [ ]

-- nor a count
plain_count : (κ : Key) → Plain κ → (i : ℕ) → same κ (inlist i) ≡ false
plain_count (head h) f i = refl
plain_count (anchor r) f i = absurd f
plain_count (flag p) f i = refl
plain_count (state j) f i = refl
plain_count (payload j) f i = refl
plain_count (inlist j) f i = absurd f
plain_count (field j k) f i = absurd f

plain_field : (κ : Key) → Plain κ → (j k : ℕ) → same κ (field j k) ≡ false
plain_field (head h) f j k = refl
plain_field (anchor r) f j k = absurd f
plain_field (flag p) f j k = refl
plain_field (state i) f j k = refl
plain_field (payload i) f j k = refl
plain_field (inlist i) f j k = absurd f
plain_field (field i c) f j k = absurd f

holder_fits : {n : ℕ} {κ : Key} → Holder n κ → Fits κ
holder_fits (an_anchor l) = l
holder_fits (a_field l m) = m

-- a product with S is at most most_slots times its other factor
pub product : (M p s : ℕ) → p ≤ M → s ≤ most_slots → p * s ≤ M * most_slots
product M p s hp hs = mul-le-mul {n₁ = p} {m₁ = s} {n₂ = M} {m₂ = most_slots} hp hs

-- no image has more places than there can be
pub most_places_lem : {P S : ℕ} → Limits P S → P * S ≤ most_places
most_places_lem {P} {S} l = product most_partitions P S l.partitions_most l.slots_most

pub places : {P S : ℕ} {x : Image} → Within P S x → P * S ≤ most_places
places w = most_places_lem w.limits

-- nothing names place 0
pub word_none : (S : ℕ) → 0 ≡ place_of S 0
unfolding place_of
word_none S = omega (arith, zero-mul S)

-- where a word leads, at most
pub word_most : (S w : ℕ) → S ≤ most_slots → w < 2 ^ 32 → place_of S w < 2 ^ 33
unfolding place_of
word_most S w s l = omega (arith, product (2 ^ 32 / radix) ((w - 1) / radix) S (omega arith) s)

-- the partition of what a word names: its own, if its slot is below S
pub part_none : (S : ℕ) → 0 ≡ part_of S (place_of S 0)
unfolding part_of
part_none S = rw (← word_none S) (sym (zero-div S))

pub part_word : (S w : ℕ) → (w - 1) % radix < S → (w - 1) / radix ≡ part_of S (place_of S w)
unfolding place_of part_of
part_word S w l = sym (digits_div ((w - 1) / radix) l)

pub word_in : (P S w : ℕ) → (w - 1) / radix < P → (w - 1) % radix < S → place_of S w < P * S
unfolding place_of
word_in P S w p s = digits_lt p s

module _ (P S : ℕ) (x : Image) where
  pub sound_within : SoundAt P S x → Within P S x
  sound_within h =
      record {
        limits = h.limits;
        long = sized_length P S x h.length_agrees;
        right = h.right;
        refs = λ κ i n. let u : NamesUsed P S x κ = h.references κ i n in word_in P S (get x κ) u.partition u.slot;
      }

  module _ (h : Within P S x) where
    -- any change of words that keeps the length and leaves references that lead to places
    moved : (y : Image) → Sized (P * S) y → Right (P * S) S y → ((μ : Key) → Holder (P * S) μ → Leads (P * S) S (get y μ)) → Within P S y
    moved y z c r = record { limits = h.limits; long = z; right = c; refs = r }

    kept : (y : Image) (μ : Key) → Holder (P * S) μ → get y μ ≡ get x μ → Leads (P * S) S (get y μ)
    kept y μ i e = subst (Leads (P * S) S) (sym e) (h.refs μ i)

    pub within_put : (κ : Key) (v : ℕ) → Plain κ → Within P S (put x κ v)
    within_put κ v f =
        moved (put x κ v) (sized_put (P * S) x κ v h.long) (right_put (P * S) S x κ v (plain_fits κ f) (plain_field κ f) (plain_count κ f) h.right)
        (λ μ i. kept (put x κ v) μ i (get_put_apart x κ v μ (plain_fits κ f) (holder_fits i) (plain_apart (P * S) κ μ f i)))

    -- a change of the reference at κ: that one leads where the new word does, every other where it led
    changed : (κ : Key) (w : ℕ) (y : Image) → Holder (P * S) κ → Sized (P * S) y → Right (P * S) S y → get y κ ≡ w
        → ((μ : Key) → Fits μ → touches κ μ ≡ false → get y μ ≡ get x μ) → Leads (P * S) S w → Within P S y
    changed κ w y k z c e apart r =
        moved y z c
        (λ μ i.
        ⊎_elim (λ q. subst (λ (ν : Key). Leads (P * S) S (get y ν)) q (subst (Leads (P * S) S) (sym e) r)) (λ q. kept y μ i (apart μ (holder_fits i) q))
        (holder_same k i))

    pub within_refer : (κ : Key) (w : ℕ) → Holder (P * S) κ → Leads (P * S) S w → Within P S (refer S x κ w)
    within_refer κ w k r =
        changed κ w (refer S x κ w) k (sized_refer (P * S) S x κ w h.long) (right_refer (P * S) S x κ w k h.long h.right)
        (refer_same (P * S) S x κ w h.long (holder_in k)) (λ μ f q. refer_apart S x κ w μ (holder_fits k) f q) r

    pub within_release : (κ : Key) → Holder (P * S) κ → Within P S (release S x κ)
    within_release κ k =
        changed κ 0 (release S x κ) k (sized_release (P * S) S x κ h.long) (right_release (P * S) S x κ k h.long h.right)
        (release_same (P * S) S x κ h.long (holder_in k)) (λ μ f q. release_apart S x κ μ (holder_fits k) f q) (λ ne. absurd (ne refl))

-- where the words before the slots are there, so are those of the head
pub has_head : (x : Image) → leb front (length_of x) ≡ true → (h : ℕ) → h < 5 → Has x (head h)
unfolding Has addr length_of
has_head x e h l = omega (arith, leb-true front (length x) e)

module _ (P S : ℕ) (x : Image) (h : Within P S x) where
  -- it has every word of its places
  pub has_word : (κ : Key) → In (P * S) κ → Has x κ
  has_word κ i = has (P * S) x h.long κ i

  -- a place's partition has a flag
  pub flag_in : (j : ℕ) → j < P * S → part_of S j < most_partitions
  flag_in j l = lt_of_lt_of_le (parts P S h.limits.some_slot j l) h.limits.partitions_most

  pub within_mark : (j : ℕ) → j < P * S → Within P S (mark S x j)
  unfolding mark
  within_mark j l = go (eqb (get x (state j)) 1)
    where
      go : (b : Bool) → Within P S (cond b (put (put x (flag (part_of S j)) 0) (state j) 2) x)
      go true =
          within_put P S (put x (flag (part_of S j)) 0) (within_put P S x h (flag (part_of S j)) 0 (flag_in j l))
          (state j) 2 tt
      go false = h

  pub within_mark_word : (w : ℕ) → Leads (P * S) S w → Within P S (mark_word S x w)
  unfolding mark_word
  within_mark_word w r = go (eqb w 0) refl
    where
      go : (b : Bool) → eqb w 0 ≡ b → Within P S (cond b x (mark S x (place_of S w)))
      go true e = h
      go false e = within_mark (place_of S w) (r (eqb-false w 0 e))
