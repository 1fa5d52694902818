-- The pass over the slots: what one field adds to the tally, and what the tally is at the end.
-- Assumes nothing.
use Prim.Native.Nat.{ℕ, zero, suc, ◌+◌, ◌*◌, ◌/◌, ◌%◌, ◌≤◌, ◌<◌}
use mathlib.Core.Path.{◌≡◌, refl, sym, ap, ◌∙◌}
use mathlib.Core.Bool.{Bool, true, false, not}
use mathlib.Core.Logic.{◌≢◌, ⊎_elim}
use mathlib.Core.List.{List}
use native.Mathlib.Omega.{arith}
use native.Mathlib.Nat.{add-mul, one-mul, mul-le-mul}
use lib.Dec.{eqb}
use mir.Val.{bool_byte}
use lib.ListN.{length, get_or, set, replicate, length-set, length-replicate}
use lib.Seq.{get_or-set_same, get_or-set_other}
use borrow.Author.Tests.{eq-eqb, ne_eqb, le-leb, lt-leb}
use Rattle.loops.specs.Loop.{both, bit, every, tally}
use Rattle.loops.proofs.Tests.{both_false, both_self, is_false, clash, bit_le, eq_or_ne}
use Rattle.loops.proofs.Loops.{tally_le, every_so}
use Rattle.loops.proofs.Turns.{tally_more}
use Rattle.kinds.specs.Names.{most_partitions, most_places}
use Rattle.model.specs.Image.{Image, state, field, get, place_of, part_of, abroad}
use Rattle.model.specs.Sound.{Free, points, in_count, ref_ok, free_ok, slot_ok}
use Rattle.model.proofs.Keys.{zeros}
use Rattle.model.proofs.Places.{part_of_lem}
use Rattle.model.proofs.Soundness.{ref_nothing, free_true}
use Rattle.model.proofs.Counting.{points_nothing}
use Rattle.image.proofs.Within.{product}
use Rattle.soundness.specs.Checks.{Shaped, pointing, Tallied}

pub places : {P S : ℕ} {x : Image} → Shaped P S x → P * S ≤ most_places
places {P} {S} h = product most_partitions P S h.limits.partitions_most h.limits.slots_most

-- what a test that fails answers, and owes no tally
pub fails : {A : Type 0} {b : Bool} → b ≡ false → (false ≡ b) × (◌≡◌ {A = Bool} false true → A)
fails e = (sym e, λ r. absurd (clash r refl))

-- a test as the number that is added for it
pub byte_bit : (b : Bool) → bool_byte b ≡ bit b
byte_bit true = refl
byte_bit false = refl

pub byte_le : {n : ℕ} (b : Bool) → n ≡ bool_byte b → n ≤ 1
byte_le b e = omega (arith, e, byte_bit b, bit_le b)

-- at first nothing is tallied
pub tallied_none : (S : ℕ) (x : Image) (c : List ℕ) → c ≡ replicate most_places 0 → Tallied S x 0 c
unfolding tally
tallied_none S x c e = rw e (record { long = length-replicate {A = ℕ} most_places 0; each = λ i l. zeros most_places i })

-- no tally is large, so there is room for one more
pub tally_room : {S : ℕ} {x : Image} {f : ℕ} {c : List ℕ} → Tallied S x f c → (i : ℕ) → i < most_places → get_or c i 0 ≤ f
tally_room {S} {x} {f} t i l = omega (arith, t.each i l, tally_le f (pointing S x i))

-- the number of fields, computed otherwise
pub tallied_at : {S : ℕ} {x : Image} {c : List ℕ} (f g : ℕ) → f ≡ g → Tallied S x f c → Tallied S x g c
tallied_at f g q t = rw (← q) t

-- field k of place j, which holds the word w
module _ {S : ℕ} {x : Image} {c : List ℕ} (j k : ℕ) (lk : k < 4) (w : ℕ) (e : w ≡ get x (field j k)) (t : Tallied S x (4 * j + k) c) where
  pointing_at : (i : ℕ) → pointing S x i (4 * j + k) ≡ points S j w i
  pointing_at i = let d : (4 * j + k) / 4 ≡ j = omega arith in let r : (4 * j + k) % 4 ≡ k = omega arith in rw (d, r, ← e)

  -- each tally rises by one where the field points there
  step : {c' : List ℕ} → length c' ≡ length c → ((i : ℕ) → i < most_places → get_or c' i 0 ≡ get_or c i 0 + bit (points S j w i)) → Tallied S x (4 * j + k + 1) c'
  step l h = record { long = l ∙ t.long; each = λ i m. h i m ∙ rw (← pointing_at i) (tally_more (pointing S x i) (4 * j + k) _ (t.each i m)) }

  pub tallied_nothing : w ≡ 0 → Tallied S x (4 * j + k + 1) c
  tallied_nothing z = step refl (λ i l. rw (z, points_nothing S j i) (omega arith))

  -- it names place a, and n is 1 where that is in another partition than its own, q, else 0
  pub tallied_more : (a q r n : ℕ) → w ≢ 0 → a < most_places → a ≡ place_of S w → part_of S j ≡ q → r ≡ part_of S (place_of S w) → n ≡ bit (not (eqb q r))
      → Tallied S x (4 * j + k + 1) (set c a (get_or c a 0 + n))
  unfolding points abroad
  tallied_more a q r n some la at mine other far =
      step (length-set c a (get_or c a 0 + n)) (λ i l. rw (ne_eqb w 0 some, mine, ← other, ← at) (⊎_elim (here i) (there i) (eq_or_ne a i)))
    where
      here : (i : ℕ) → a ≡ i → get_or (set c a (get_or c a 0 + n)) i 0 ≡ get_or c i 0 + bit (both (not (eqb q r)) (eqb a i))
      here i z = rw (← z, get_or-set_same c a (get_or c a 0 + n) 0 (omega (arith, t.long)), eq-eqb a a, both_self (not (eqb q r)), far)

      there : (i : ℕ) → a ≢ i → get_or (set c a (get_or c a 0 + n)) i 0 ≡ get_or c i 0 + bit (both (not (eqb q r)) (eqb a i))
      there i z = rw (get_or-set_other c a i (get_or c a 0 + n) 0 (λ y. z (sym y)), ne_eqb a i z, both_false (not (eqb q r))) (omega arith)

-- a free slot adds nothing
pub tallied_free : {S : ℕ} {x : Image} (j : ℕ) {c : List ℕ} → free_ok x j ≡ true → Tallied S x (4 * j) c → Tallied S x (4 * (j + 1)) c
tallied_free {S} {x} j {c} e t = tallied_at (4 * j + 4) (4 * (j + 1)) (omega arith) (skip 4 (omega arith))
  where
    skip : (k : ℕ) → k ≤ 4 → Tallied S x (4 * j + k) c
    skip zero l = tallied_at (4 * j) (4 * j + 0) (omega arith) t
    skip (suc k) l = tallied_at (4 * j + k + 1) (4 * j + suc k) (omega arith) (tallied_nothing j k (omega arith) _ refl (skip k (omega arith)) ((free_true x j e).fields k (omega arith)))

-- what is no free slot fails the test for one
pub free_not : (x : Image) (j : ℕ) → (Free x j → ⊥) → false ≡ free_ok x j
free_not x j h = sym (is_false (free_ok x j) (λ e. h (free_true x j e)))

-- a slot: free, with an unknown state, in use
fields_free : (P S : ℕ) (x : Image) (j : ℕ) → both (every 4 (λ k. ref_ok P S x (field j k))) (free_ok x j) ≡ free_ok x j
fields_free P S x j = go (free_ok x j) refl
  where
    go : (b : Bool) → free_ok x j ≡ b → both (every 4 (λ k. ref_ok P S x (field j k))) b ≡ b
    go true e = rw (every_so 4 (λ k. ref_ok P S x (field j k)) (λ k l. ref_nothing P S x (field j k) ((free_true x j e).fields k l)))
    go false e = both_false (every 4 (λ k. ref_ok P S x (field j k)))

module _ (P S : ℕ) (x : Image) (j v : ℕ) (e : v ≡ get x (state j)) where
  pub slot_free : v ≡ 0 → slot_ok P S x j ≡ free_ok x j
  unfolding slot_ok
  slot_free z = rw (← e, z) (fields_free P S x j)

  pub slot_unknown : 2 < v → slot_ok P S x j ≡ false
  unfolding slot_ok
  slot_unknown l = rw (← e, lt-leb v 2 l)

  pub slot_used : v ≢ 0 → v ≤ 2 → slot_ok P S x j ≡ every 4 (λ k. ref_ok P S x (field j k))
  unfolding slot_ok
  slot_used n l = rw (← e, le-leb v 2 l, ne_eqb v 0 n) (both_self (every 4 (λ k. ref_ok P S x (field j k))))

pub part_small : (S q : ℕ) → 0 < S → q ≤ q * S
part_small S q some = omega (arith, mul-le-mul {n₁ = q} {m₁ = 1} {n₂ = q} {m₂ = S} (omega arith) some)

-- the partition of a place
module _ (S q j : ℕ) (some : 0 < S) where
  pub next_part : q * S + S ≤ j → j ≤ q * S + S → (q + 1 ≡ part_of S j) × ((q + 1) * S ≤ j) × (j < (q + 1) * S + S)
  next_part a b =
      let m : (q + 1) * S ≡ q * S + S = add-mul q 1 S ∙ ap (λ (v : ℕ). q * S + v) (one-mul S) in
      let e : (q + 1) * S + 0 ≡ j = omega arith in
      (sym (rw e at (part_of_lem (q + 1) S some (q + 1) 0 some)), omega arith, omega arith)

-- a count is what was tallied
pub count_is : {P S : ℕ} {x : Image} {c : List ℕ} → Shaped P S x → Tallied S x (4 * (P * S)) c → (j : ℕ) → j < P * S → get_or c j 0 ≡ in_count S (P * S) x j
unfolding in_count
count_is {P} {S} h t j l = t.each j (omega (arith, places h))
