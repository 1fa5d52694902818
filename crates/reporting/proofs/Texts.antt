-- Laws of the report's lines: how long they are, and how they are put one after the other.
-- Assumes nothing.
use Prim.Native.Nat.{ℕ, zero, suc, ◌+◌, ◌-◌, ◌*◌, ◌/◌, ◌%◌, ◌≤◌, ◌<◌}
use native.Mathlib.Omega.{arith}
use native.Mathlib.Decide.{dec_lt}
use native.Mathlib.Nat.{div-lt_iff_lt-mul, mod-lt, mul-le-mul_right}
use native.Mathlib.Numerals.{add-one}
use mathlib.Core.Path.{◌≡◌, refl, sym}
use mathlib.Core.Bool.{Bool, true, false, cond}
use mathlib.Core.Logic.{◌≢◌}
use mathlib.Core.List.{List, [], ◌∷◌, ◌++◌, append_assoc}
use lib.ListN.{length, length-append}
use lib.Seq.{sets-eq, drop-drop}
use borrow.Rule.Slice.PartMut.{put_mid}
use borrow.Author.Tests.{eq-eqb, ne_eqb}
use Rattle.kinds.specs.Names.{most_partitions, most_slots, most_places}
use Rattle.lines.proofs.Digits.{decimal_length, decimal_length_small, decimal_length_step}
use Rattle.lines.specs.Decimal.{decimal}
use Rattle.lines.specs.Print.{Put}
use Rattle.model.specs.Acts.{used}
use Rattle.model.specs.Image.{Image, state, payload, get}
use Rattle.writer.proofs.Puts.{put_then, put_length}
use Rattle.reporting.specs.Report.{object_bytes, object_word, spaced, row, object_at, objects}

-- a number has at most ten digits
spaced_length : (n : ℕ) → length (spaced n) ≤ 11
unfolding spaced
spaced_length n = omega (arith, decimal_length n)

-- one below 100 has at most two, one below 1,000 at most three: each a digit more than its tenth
digit_more : (n k : ℕ) → n < 1000 → 1 ≤ k → length (decimal (n / 10)) ≤ k → length (decimal n) ≤ k + 1
digit_more n k h some tenth = by (dec_lt n 10)
  where
    by : Dec (n < 10) → length (decimal n) ≤ k + 1
    by (yes p) = omega (arith, decimal_length_small n p)
    by (no p) = omega (arith, decimal_length_step n (omega arith) (omega arith))

two_digits : (n : ℕ) → n < 100 → length (decimal n) ≤ 2
two_digits n h = digit_more n 1 (omega arith) (omega arith) (omega (arith, decimal_length_small (n / 10) (omega arith)))

three_digits : (n : ℕ) → n < 1000 → length (decimal n) ≤ 3
three_digits n h = digit_more n 2 h (omega arith) (two_digits (n / 10) (omega arith))

pub row_length : (word : List ℕ) (n : ℕ) → length (row word (n ∷ [])) ≤ length word + 12
unfolding row
row_length word n =
    omega (arith, length-append word (spaced n ++ (10 ∷ [])), length-append (spaced n) (10 ∷ []), spaced_length n)

-- an object's line: two digits of partition, three of slot
object_length : (p s v : ℕ) → p < 100 → s < 1000 → length (row object_word (p ∷ s ∷ v ∷ [])) ≤ object_bytes
unfolding row spaced
object_length p s v hp hs =
    let e = spaced v ++ (10 ∷ []) in
    omega (
      arith,
      length-append object_word (spaced p ++ (spaced s ++ e)),
      length-append (spaced p) (spaced s ++ e),
      length-append (spaced s) e,
      length-append (spaced v) (10 ∷ []),
      two_digits p hp,
      three_digits s hs,
      decimal_length v,
    )

-- the partition and the slot of a place are within the limits
module _ (S j : ℕ) (narrow : S ≤ most_slots) (in_heap_lem : j < most_partitions * S) where
  some_slot : 0 < S
  some_slot = omega arith

  pub part_small : j / S < most_partitions
  part_small = (div-lt_iff_lt-mul some_slot).1 in_heap_lem

  pub slot_small : j % S < most_slots
  slot_small = let h : j % S < S = mod-lt j some_slot in omega arith

  line_length : (v : ℕ) → length (row object_word (j / S ∷ j % S ∷ v ∷ [])) ≤ object_bytes
  line_length v = let p : j / S < most_partitions = part_small in let s : j % S < most_slots = slot_small in object_length (j / S) (j % S) v (omega arith) (omega arith)

  place_length : (y : Image) → length (object_at S y j) ≤ object_bytes
  unfolding object_at
  place_length y = by (used y j)
    where
      by : (b : Bool) → length (cond b (row object_word (j / S ∷ j % S ∷ get y (payload j) ∷ [])) []) ≤ object_bytes
      by true = line_length (get y (payload j))
      by false = omega arith

pub objects_length : (S n : ℕ) (y : Image) → S ≤ most_slots → n ≤ most_partitions * S → length (objects S y n) ≤ object_bytes * n
unfolding objects
objects_length S zero y h k = omega arith
objects_length S (suc j) y h k =
    let a : length (objects S y j) ≤ object_bytes * j = objects_length S j y h (omega arith) in
    let b : length (object_at S y j) ≤ object_bytes = place_length S j h (omega arith) y in
    omega (arith, length-append (objects S y j) (object_at S y j))

-- a word copied to its place
pub put_copied : (l ys word : List ℕ) (at : ℕ) → ys ≡ word → at + length word ≤ length l → Put l (put_mid at (at + length word - at) l ys) at word (at + length word)
put_copied l ys word at e h =
    let k : at + length word - at ≡ length word = omega arith in
    record { next = refl; bytes = rw (e, k, drop-drop, ← append_assoc) (sym (sets-eq word l at h)) }

-- what is said of a place, by the word that is its state
module _ (S : ℕ) (y : Image) (j : ℕ) where
  pub place_free : get y (state j) ≡ 0 → object_at S y j ≡ []
  unfolding object_at
  place_free e = rw (eq-eqb (get y (state j)) 0 e)

  pub place_used : get y (state j) ≢ 0 → object_at S y j ≡ row object_word (j / S ∷ j % S ∷ get y (payload j) ∷ [])
  unfolding object_at
  place_used e = rw (ne_eqb (get y (state j)) 0 e)

-- one more place
module _ (S : ℕ) (y : Image) (j : ℕ) {before after : List ℕ} {at next : ℕ} (p : Put before after at (objects S y j) next) where
  pub put_more : {more : List ℕ} {r : ℕ} → Put after more next (object_at S y j) r → Put before more at (objects S y (j + 1)) r
  unfolding objects
  put_more q = rw add-one (put_then p q)

  pub room_more : (n : ℕ) → j < n → S ≤ most_slots → n ≤ most_partitions * S → at + object_bytes * n ≤ length before → next + object_bytes ≤ length after
  room_more n h k w r = omega (arith, put_length p, p.next, objects_length S j y k (omega arith))

-- room for a line, and after it: how far on, and as many bytes as before
pub row_room : (word : List ℕ) (n at m : ℕ) → at + length word + 12 ≤ m → at + length (row word (n ∷ [])) ≤ m
row_room word n at m h = omega (arith, row_length word n)

pub row_put : {before after : List ℕ} {at r : ℕ} (word : List ℕ) (n : ℕ) → Put before after at (row word (n ∷ [])) r → (r ≤ at + length word + 12) × (length after ≡ length before)
row_put word n p = (omega (arith, p.next, row_length word n), put_length p)

pub object_room : (p s v at m : ℕ) → p < 100 → s < 1000 → at + object_bytes ≤ m → at + length (row object_word (p ∷ s ∷ v ∷ [])) ≤ m
object_room p s v at m hp hs h = omega (arith, object_length p s v hp hs)

-- a heap has at most 16 partitions, and 2,048 places
pub places_most : (p s : ℕ) → p ≤ most_partitions → s ≤ most_slots → (p * s ≤ most_partitions * s) × (p * s ≤ most_places)
places_most p s h k = let e : p * s ≤ most_partitions * s = mul-le-mul_right s h in (e, omega arith)
