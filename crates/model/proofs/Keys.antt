-- Keys and their words: which keys are in an image, when two differ, and the laws of get, put, refer and release. Above, Counting
-- alone opens `refer` and `release`, and SoundnessActs `get` at one place, but for Answers, whose rows compute and open everything.
-- Assumes nothing.
use Prim.Native.Nat.{ℕ, zero, suc, ◌+◌, ◌*◌, ◌-◌, ◌/◌, ◌%◌, ◌≤◌, ◌<◌}
use mathlib.Core.Path.{◌≡◌, refl, sym, ap, subst, ◌∙◌}
use mathlib.Core.Bool.{Bool, true, false, cond}
use mathlib.Core.List.{◌∷◌}
use mathlib.Core.Logic.{◌≢◌, ⊎_elim}
use native.Mathlib.Omega.{arith}
use lib.ListN.{get_or, replicate, length-set, length-replicate}
use lib.Seq.{get_or-set_same, get_or-set_other, set_comm, ext_get_or}
use lib.Dec.{eqb, ltb}
use borrow.Author.Tests.{lt-ltb, le-ltb, eq-eqb, ne_eqb}
use Rattle.loops.specs.Loop.{both, tally, bit}
use Rattle.loops.proofs.Tests.{clash, lt_or_ge}
use Rattle.loops.proofs.Loops.{tally_same, tally_move}
use Rattle.kinds.specs.Names.{roots, handles}
use Rattle.model.specs.Image.{Image, Key, head, anchor, root, handle, flag, state, payload, inlist, field, is_count, one_less, one_more, abroad, lose, gain, recount, place_of, anchors, front, stride, addr, get, put, length_of, size, blank, refer, release}
unfoldable pub use Rattle.model.specs.Image.{Has, Sized}
pub use Rattle.model.specs.Effects.{In}

-- a key whose address is no other key's
abbrev pub Fits : Key → Type 0
Fits (head h) = h < 5
Fits (anchor r) = r < anchors
Fits (flag p) = p < 16
Fits (state j) = Unit {0}
Fits (payload j) = Unit {0}
Fits (inlist j) = Unit {0}
Fits (field j k) = k < 4

-- two keys are the same: as numbers, so that the test computes for different kinds
abbrev pub kind : Key → ℕ
kind (head h) = 0
kind (anchor r) = 1
kind (flag p) = 2
kind (state j) = 3
kind (payload j) = 4
kind (field j k) = 5
kind (inlist j) = 6

abbrev pub major : Key → ℕ
major (head h) = h
major (anchor r) = r
major (flag p) = p
major (state j) = j
major (payload j) = j
major (inlist j) = j
major (field j k) = j

abbrev pub minor : Key → ℕ
minor (head h) = 0
minor (anchor r) = 0
minor (flag p) = 0
minor (state j) = 0
minor (payload j) = 0
minor (inlist j) = 0
minor (field j k) = k

abbrev pub same : Key → Key → Bool
same κ μ = both (eqb (kind κ) (kind μ)) (both (eqb (minor κ) (minor μ)) (eqb (major κ) (major μ)))

-- one of two tests passes; by the second first, so that it computes where that is known
abbrev pub either : Bool → Bool → Bool
either a true = true
either a false = a

-- a change of the reference at κ may change the word at μ: itself, and with a field any count
abbrev pub touches : Key → Key → Bool
touches κ μ = either (same κ μ) (cond (is_count μ) (eqb (kind κ) 5) false)

-- different keys have different addresses: the key of an address can be read off it
key_in : ℕ → ℕ → Key
key_in j o = cond (eqb o 0) (state j) (cond (eqb o 1) (payload j) (cond (eqb o 6) (inlist j) (field j (o - 2))))

key_at : ℕ → Key
key_at a = cond (ltb a 5) (head a) (cond (ltb a 21) (root (a - 5)) (cond (ltb a 37) (flag (a - 21)) (cond (ltb a front) (handle (a - 37)) (key_in ((a - front) / stride) ((a - front) % stride)))))

key_slot : (a j o : ℕ) → a ≡ front + stride * j + o → o < stride → key_at a ≡ key_in j o
unfolding key_at
key_slot a j o e l =
    let d : (a - front) / stride ≡ j = omega arith in
    let m : (a - front) % stride ≡ o = omega arith in
    rw (le-ltb a 5 (omega arith), le-ltb a 21 (omega arith), le-ltb a 37 (omega arith), le-ltb a front (omega arith), d, m)

key_field : (j k : ℕ) → k < 4 → key_in j (2 + k) ≡ field j k
unfolding key_in
key_field j k l =
    let d : 2 + k - 2 ≡ k = omega arith in
    rw (ne_eqb (2 + k) 0 (λ e. omega arith), ne_eqb (2 + k) 1 (λ e. omega arith), ne_eqb (2 + k) 6 (λ e. omega arith), d)

-- an anchor is a root, or else a handle
pub root_addr : (a : ℕ) → a < roots → addr (anchor a) ≡ 5 + a
unfolding addr
root_addr a l = rw (lt-ltb a roots l)

pub handle_addr : (a : ℕ) → roots ≤ a → addr (anchor a) ≡ 37 + (a - roots)
unfolding addr
handle_addr a l = rw (le-ltb a roots l)

pub anchor_above : (a : ℕ) → a ≤ addr (anchor a)
anchor_above a = ⊎_elim (λ r. omega (arith, root_addr a r)) (λ h. omega (arith, handle_addr a h)) (lt_or_ge a roots)

key_root : (r : ℕ) → r < roots → key_at (5 + r) ≡ root r
unfolding key_at
key_root r l = let d : 5 + r - 5 ≡ r = omega arith in rw (le-ltb (5 + r) 5 (omega arith), lt-ltb (5 + r) 21 (omega arith), d)

key_handle : (h : ℕ) → h < handles → key_at (37 + h) ≡ handle h
unfolding key_at
key_handle h l =
    let d : 37 + h - 37 ≡ h = omega arith in
    rw (le-ltb (37 + h) 5 (omega arith), le-ltb (37 + h) 21 (omega arith), le-ltb (37 + h) 37 (omega arith), lt-ltb (37 + h) front (omega arith), d)

key_anchor : (a : ℕ) → a < anchors → key_at (addr (anchor a)) ≡ anchor a
key_anchor a l =
    ⊎_elim (λ r. ap key_at (root_addr a r) ∙ key_root a r)
    (λ h. let d : roots + (a - roots) ≡ a = omega arith in ap key_at (handle_addr a h) ∙ key_handle (a - roots) (omega arith) ∙ ap anchor d)
    (lt_or_ge a roots)

at_key : (κ : Key) → Fits κ → key_at (addr κ) ≡ κ
unfolding addr key_at key_in
at_key (head h) v = rw (lt-ltb h 5 v)
at_key (anchor a) v = key_anchor a v
at_key (flag p) v = let d : 21 + p - 21 ≡ p = omega arith in rw (le-ltb (21 + p) 5 (omega arith), le-ltb (21 + p) 21 (omega arith), lt-ltb (21 + p) 37 (omega arith), d)
at_key (state j) v = key_slot (front + stride * j) j 0 (omega arith) (omega arith)
at_key (payload j) v = key_slot (front + stride * j + 1) j 1 (omega arith) (omega arith)
at_key (field j k) v = key_slot (front + stride * j + 2 + k) j (2 + k) (omega arith) (omega arith) ∙ key_field j k v
at_key (inlist j) v = key_slot (front + stride * j + 6) j 6 (omega arith) (omega arith)

same_self : (κ : Key) → same κ κ ≡ true
same_self κ = rw (eq-eqb (kind κ) (kind κ) refl, eq-eqb (minor κ) (minor κ) refl, eq-eqb (major κ) (major κ) refl)

apart : (κ μ : Key) → Fits κ → Fits μ → same κ μ ≡ false → addr κ ≡ addr μ → ⊥
apart κ μ v w e q =
    let is : κ ≡ μ = sym (at_key κ v) ∙ ap key_at q ∙ at_key μ w in
    clash (same_self κ) (subst (λ (ν : Key). same κ ν ≡ false) (sym is) e)

pub in_fits : (n : ℕ) (κ : Key) → In n κ → Fits κ
in_fits n (head h) v = v
in_fits n (anchor r) v = v
in_fits n (flag p) v = v
in_fits n (state i) v = tt
in_fits n (payload i) v = tt
in_fits n (inlist i) v = tt
in_fits n (field i k) v = v.1

module _ (n : ℕ) where
  pub addr_in : (κ : Key) → In n κ → addr κ < front + stride * n
  unfolding addr
  addr_in (head h) v = omega arith
  addr_in (anchor a) v = ⊎_elim (λ r. omega (arith, root_addr a r)) (λ h. omega (arith, handle_addr a h)) (lt_or_ge a roots)
  addr_in (flag p) v = omega arith
  addr_in (state i) v = omega arith
  addr_in (payload i) v = omega arith
  addr_in (inlist i) v = omega arith
  addr_in (field i k) v = omega arith

-- an image of n places has their words, whatever is put into it
pub has : (n : ℕ) (img : Image) → Sized n img → (κ : Key) → In n κ → Has img κ
unfolding Sized Has
has n img z κ i = omega (arith, addr_in n κ i)

pub has_put : (img : Image) (μ : Key) (v : ℕ) (κ : Key) → Has img κ → Has (put img μ v) κ
unfolding Has put
has_put img μ v κ h = omega (arith, length-set img (addr μ) v)

pub get_put_apart : (img : Image) (κ : Key) (v : ℕ) (μ : Key) → Fits κ → Fits μ → same κ μ ≡ false → get (put img κ v) μ ≡ get img μ
unfolding put get
get_put_apart img κ v μ i j e = get_or-set_other img (addr κ) (addr μ) v 0 (λ q. apart κ μ i j e (sym q))

pub put_swap : (img : Image) (κ μ : Key) (v w : ℕ) → Fits κ → Fits μ → same κ μ ≡ false → put (put img κ v) μ w ≡ put (put img μ w) κ v
unfolding put
put_swap img κ μ v w i j e = set_comm img (addr κ) (addr μ) v w (λ q. apart κ μ i j e q)

module _ (n : ℕ) (img : Image) (κ : Key) (v : ℕ) where
  pub sized_put : Sized n img → Sized n (put img κ v)
  unfolding Sized put
  sized_put z = length-set img (addr κ) v ∙ z

  pub get_put_same : Sized n img → In n κ → get (put img κ v) κ ≡ v
  unfolding Sized put get
  get_put_same z i = get_or-set_same img (addr κ) v 0 (omega (arith, addr_in n κ i))

  pub get_put_other : (μ : Key) → In n κ → In n μ → same κ μ ≡ false → get (put img κ v) μ ≡ get img μ
  get_put_other μ i j e = get_put_apart img κ v μ (in_fits n κ i) (in_fits n μ j) e

-- the counts where a field loses a word, and gains one
pub lose_keeps : (Q : Image → Type 0) (S j w : ℕ) (img : Image) → (abroad S j w ≡ true → Q (one_less S w img)) → (abroad S j w ≡ false → Q img) → Q (lose S j w img)
unfolding lose
lose_keeps Q S j w img h k = go (abroad S j w) refl
  where
    go : (b : Bool) → abroad S j w ≡ b → Q (cond b (one_less S w img) img)
    go true e = h e
    go false e = k e

pub gain_keeps : (Q : Image → Type 0) (S j w : ℕ) (img : Image) → (abroad S j w ≡ true → Q (one_more S w img)) → (abroad S j w ≡ false → Q img) → Q (gain S j w img)
unfolding gain
gain_keeps Q S j w img h k = go (abroad S j w) refl
  where
    go : (b : Bool) → abroad S j w ≡ b → Q (cond b (one_more S w img) img)
    go true e = h e
    go false e = k e

-- a key that is no count
abbrev pub NoCount : Key → Type 0
NoCount κ = is_count κ ≡ false

count_apart : (i : ℕ) (μ : Key) → NoCount μ → same (inlist i) μ ≡ false
count_apart i (head h) e = refl
count_apart i (anchor r) e = refl
count_apart i (flag p) e = refl
count_apart i (state j) e = refl
count_apart i (payload j) e = refl
count_apart i (field j k) e = refl
count_apart i (inlist j) e = absurd (clash refl e)

-- the counts follow: no other word changes
recount_apart : (S : ℕ) (img : Image) (κ : Key) (w : ℕ) (μ : Key) → Fits μ → cond (is_count μ) (eqb (kind κ) 5) false ≡ false → get (recount S img κ w) μ ≡ get img μ
unfolding recount
recount_apart S img (head h) w μ f e = refl
recount_apart S img (anchor r) w μ f e = refl
recount_apart S img (flag p) w μ f e = refl
recount_apart S img (state j) w μ f e = refl
recount_apart S img (payload j) w μ f e = refl
recount_apart S img (inlist j) w μ f e = refl
recount_apart S img (field j k) w μ f e = gained (lose S j (get img (field j k)) img) ∙ lost
  where
    none : (b : Bool) → cond b true false ≡ false → b ≡ false
    none true q = absurd (clash refl q)
    none false q = refl

    apart_count : (i : ℕ) → same (inlist i) μ ≡ false
    apart_count i = count_apart i μ (none (is_count μ) e)

    lost : get (lose S j (get img (field j k)) img) μ ≡ get img μ
    lost = lose_keeps (λ y. get y μ ≡ get img μ) S j (get img (field j k)) img (λ q. get_put_apart img (inlist (place_of S (get img (field j k)))) _ μ tt f (apart_count _)) (λ q. refl)

    gained : (y : Image) → get (gain S j w y) μ ≡ get y μ
    gained y = gain_keeps (λ z. get z μ ≡ get y μ) S j w y (λ q. get_put_apart y (inlist (place_of S w)) _ μ tt f (apart_count _)) (λ q. refl)

either_false : (a b : Bool) → either a b ≡ false → (a ≡ false) × (b ≡ false)
either_false a true e = absurd (clash refl e)
either_false a false e = (e, refl)

-- what a change does not touch is another word
pub touches_same : (κ μ : Key) → touches κ μ ≡ false → same κ μ ≡ false
touches_same κ μ e = (either_false (same κ μ) (cond (is_count μ) (eqb (kind κ) 5) false) e).0

pub same_touches : (κ μ : Key) → NoCount μ → same κ μ ≡ false → touches κ μ ≡ false
same_touches κ μ n e = rw (n, e)

pub refer_apart : (S : ℕ) (img : Image) (κ : Key) (w : ℕ) (μ : Key) → Fits κ → Fits μ → touches κ μ ≡ false → get (refer S img κ w) μ ≡ get img μ
unfolding refer
refer_apart S img κ w μ i j e =
    let d = either_false (same κ μ) (cond (is_count μ) (eqb (kind κ) 5) false) e in
    get_put_apart (recount S img κ w) κ w μ i j d.0 ∙ recount_apart S img κ w μ j d.1

pub release_apart : (S : ℕ) (img : Image) (κ μ : Key) → Fits κ → Fits μ → touches κ μ ≡ false → get (release S img κ) μ ≡ get img μ
unfolding release
release_apart S img κ μ i j e =
    let d = either_false (same κ μ) (cond (is_count μ) (eqb (kind κ) 5) false) e in
    get_put_apart (recount S img κ 0) κ 0 μ i j d.0 ∙ recount_apart S img κ 0 μ j d.1

module _ (n S : ℕ) (img : Image) (κ : Key) where
  pub sized_recount : (w : ℕ) → Sized n img → Sized n (recount S img κ w)
  unfolding recount
  sized_recount w z = go κ
    where
      go : (κ : Key) → Sized n (recount S img κ w)
      go (head h) = z
      go (anchor r) = z
      go (flag p) = z
      go (state j) = z
      go (payload j) = z
      go (inlist j) = z
      go (field j k) =
          gain_keeps (Sized n) S j w _ (λ e. sized_put n _ _ _ lost) (λ e. lost)
        where
          lost : Sized n (lose S j (get img (field j k)) img)
          lost = lose_keeps (Sized n) S j (get img (field j k)) img (λ e. sized_put n _ _ _ z) (λ e. z)

  pub sized_refer : (w : ℕ) → Sized n img → Sized n (refer S img κ w)
  unfolding refer
  sized_refer w z = sized_put n (recount S img κ w) κ w (sized_recount w z)

  pub refer_same : (w : ℕ) → Sized n img → In n κ → get (refer S img κ w) κ ≡ w
  unfolding refer
  refer_same w z i = get_put_same n (recount S img κ w) κ w (sized_recount w z) i

  pub sized_release : Sized n img → Sized n (release S img κ)
  unfolding release
  sized_release z = sized_put n (recount S img κ 0) κ 0 (sized_recount 0 z)

  pub release_same : Sized n img → In n κ → get (release S img κ) κ ≡ 0
  unfolding release
  release_same z i = get_put_same n (recount S img κ 0) κ 0 (sized_recount 0 z) i

-- every word of an image of n places has a key, so two images that agree at each key are one
key_at_lem : (n a : ℕ) → a < front + stride * n → (κ : Key) × In n κ × (addr κ ≡ a)
unfolding addr
key_at_lem n a l =
    ⊎_elim (λ h. (head a, h, refl))
    (λ h. ⊎_elim (λ r. (root (a - 5), omega arith, omega (arith, root_addr (a - 5) (omega arith))))
    (λ r. ⊎_elim (λ f. (flag (a - 21), omega arith, omega arith))
    (λ f. ⊎_elim (λ g. (handle (a - 37), omega arith, omega (arith, handle_addr (roots + (a - 37)) (omega arith))))
    (λ g. ⊎_elim (λ c. (state ((a - front) / stride), omega arith, omega arith))
    (λ c. ⊎_elim (λ d. (payload ((a - front) / stride), omega arith, omega arith))
    (λ d. ⊎_elim (λ e. (field ((a - front) / stride) ((a - front) % stride - 2), (omega arith, omega arith), omega arith))
    (λ e. (inlist ((a - front) / stride), omega arith, omega arith))
    (lt_or_ge ((a - front) % stride) 6)) (lt_or_ge ((a - front) % stride) 2)) (lt_or_ge ((a - front) % stride) 1)) (lt_or_ge a front)) (lt_or_ge a 37)) (lt_or_ge a 21)) (lt_or_ge a 5)

pub words_same : (n : ℕ) (y z : Image) → Sized n y → Sized n z → ((κ : Key) → In n κ → get y κ ≡ get z κ) → y ≡ z
unfolding Sized get
words_same n y z s t h = ext_get_or 0 y z (s ∙ sym t) (λ a l. let k = key_at_lem n a (omega arith) in rw k.2 at (h k.0 k.1))

-- the length test and the size
pub sized_length : (P S : ℕ) (img : Image) → length_of img ≡ size P S → Sized (P * S) img
unfolding Sized length_of size
sized_length P S img e = e

pub length_sized : (P S : ℕ) (img : Image) → Sized (P * S) img → length_of img ≡ size P S
unfolding Sized length_of size
length_sized P S img z = z

pub zeros : (n a : ℕ) → ◌≡◌ {A = ℕ} (get_or (replicate n 0) a 0) 0
zeros zero a = refl
zeros (suc n) zero = refl
zeros (suc n) (suc a) = zeros n a

after_two : (n a b c : ℕ) → 2 ≤ c → get_or (a ∷ b ∷ replicate n 0) c 0 ≡ 0
after_two n a b zero l = absurd (omega arith)
after_two n a b (suc zero) l = absurd (omega arith)
after_two n a b (suc (suc c)) l = zeros n c

-- a blank image has the right length, P, S, and zeros
module _ (P S : ℕ) where
  pub blank_sized : Sized (P * S) (blank P S)
  unfolding Sized blank
  blank_sized = omega (arith, length-replicate {A = ℕ} (front - 2 + stride * (P * S)) 0)

  pub blank_partitions : get (blank P S) (head 0) ≡ P
  unfolding get blank addr
  blank_partitions = refl

  pub blank_slots : get (blank P S) (head 1) ≡ S
  unfolding get blank addr
  blank_slots = refl

  pub blank_zero : (κ : Key) → 2 ≤ addr κ → get (blank P S) κ ≡ 0
  unfolding get blank
  blank_zero κ l = after_two (front - 2 + stride * (P * S)) P S (addr κ) l

-- A count over keys, and how one put moves it
module _ (n : ℕ) (img : Image) (key : ℕ → Key) (c m : ℕ) (valid : (j : ℕ) → j < m → In n (key j)) where
  pub count_put : (i v : ℕ) → i < m → Sized n img → ((j : ℕ) → i ≢ j → same (key i) (key j) ≡ false)
      → tally m (λ j. eqb (get (put img (key i) v) (key j)) c) + bit (eqb (get img (key i)) c) ≡ tally m (λ j. eqb (get img (key j)) c) + bit (eqb v c)
  count_put i v l z d =
      rw (get_put_same n img (key i) v z (valid i l)) at
      (tally_move m (λ j. eqb (get img (key j)) c) (λ j. eqb (get (put img (key i) v) (key j)) c) i l
      (λ j k ne. ap (λ (w : ℕ). eqb w c) (sym (get_put_other n img (key i) v (key j) (valid i l) (valid j k) (d j (λ q. ne (sym q)))))))

  pub count_other : (κ : Key) (v : ℕ) → In n κ → ((j : ℕ) → same κ (key j) ≡ false) → tally m (λ j. eqb (get (put img κ v) (key j)) c) ≡ tally m (λ j. eqb (get img (key j)) c)
  count_other κ v i d = tally_same m _ _ (λ j l. ap (λ (w : ℕ). eqb w c) (get_put_other n img κ v (key j) i (valid j l) (d j)))
