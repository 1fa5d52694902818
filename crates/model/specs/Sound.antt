-- A sound image: as a test that computes, and as the paper's conditions by name.
use Rattle.std.specs.Prelude.{ℕ, ◌+◌, ◌*◌, ◌-◌, ◌/◌, ◌%◌, ◌≤◌, ◌<◌, Bool, true, not, cond, ◌≡◌, ◌≢◌, eqb, ltb, leb}
use Rattle.loops.specs.Loop.{both, every, tally}
use Rattle.kinds.specs.Names.{radix, most_partitions, most_slots}
use Rattle.model.specs.Image.{Image, Key, anchor, flag, state, payload, inlist, field, abroad, partitions, slots, phase, count, allowance, anchors, get, length_of, size, place_of, Holder}
use Rattle.model.specs.Acts.{used, marked, is_open}
use Rattle.model.specs.Judge.{in_limits}

-- a reference word names a slot: its partition is below P, its slot below S
unfoldable pub in_range : ℕ → ℕ → ℕ → Bool
in_range P S w = both (ltb ((w - 1) / radix) P) (ltb ((w - 1) % radix) S)

-- a reference is nothing or names a slot in use
unfoldable pub ref_ok : ℕ → ℕ → Image → Key → Bool
ref_ok P S x κ = cond (eqb (get x κ) 0) true (both (in_range P S (get x κ)) (used x (place_of S (get x κ))))

-- five of a free slot's seven zeros, its state being the sixth; the seventh is its count, since nothing names a free slot (free-count)
unfoldable pub free_ok : Image → ℕ → Bool
free_ok x j = both (eqb (get x (payload j)) 0) (every 4 (λ k. eqb (get x (field j k)) 0))

unfoldable pub slot_ok : ℕ → ℕ → Image → ℕ → Bool
slot_ok P S x j = both (leb (get x (state j)) 2) (both (every 4 (λ k. ref_ok P S x (field j k))) (cond (used x j) true (free_ok x j)))

-- the word w, in a field of the object at j, is a foreign reference to the object at i
unfoldable pub points : ℕ → ℕ → ℕ → ℕ → Bool
points S j w i = both (abroad S j w) (eqb (place_of S w) i)

-- the fields of objects in other partitions that name the object at i; field k of place j is number 4·j + k
unfoldable pub in_count : ℕ → ℕ → Image → ℕ → ℕ
in_count S n x i = tally (4 * n) (λ f. points S (f / 4) (get x (field (f / 4) (f % 4))) i)

unfoldable pub count_ok : ℕ → ℕ → Image → ℕ → Bool
count_ok S n x i = eqb (get x (inlist i)) (in_count S n x i)

unfoldable pub anchor_ok : ℕ → ℕ → Image → ℕ → Bool
anchor_ok P S x a = ref_ok P S x (anchor a)

-- a flag is 0 or 1, and 0 from partition P on
unfoldable pub flag_ok : ℕ → Image → ℕ → Bool
flag_ok P x p = both (leb (get x (flag p)) 1) (cond (ltb p P) true (eqb (get x (flag p)) 0))

unfoldable pub flag_down : Image → ℕ → Bool
flag_down x p = eqb (get x (flag p)) 0

unfoldable pub unmarked_at : Image → ℕ → Bool
unmarked_at x j = not (marked x j)

-- with the phase open: the allowance is at most P + P-as-S, traces counted are at most the allowance
unfoldable pub open_ok : ℕ → ℕ → Image → Bool
open_ok P S x = both (leb (get x allowance) (P + P * S)) (leb (get x count) (get x allowance))

-- with it shut: words 3 and 4 and all flags are 0 and nothing is marked
unfoldable pub shut_ok : ℕ → ℕ → Image → Bool
shut_ok P S x =
    both (eqb (get x count) 0)
    (both (eqb (get x allowance) 0) (both (every most_partitions (flag_down x)) (every (P * S) (unmarked_at x))))

unfoldable pub sound_at : ℕ → ℕ → Image → Bool
sound_at P S x =
    both (in_limits P S)
    (both (eqb (length_of x) (size P S))
    (both (leb (get x phase) 1)
    (both (every (P * S) (slot_ok P S x))
    (both (every (P * S) (count_ok S (P * S) x))
    (both (every anchors (anchor_ok P S x))
    (both (every most_partitions (flag_ok P x)) (cond (is_open x) (open_ok P S x) (shut_ok P S x))))))))

-- the test: P and S are words 0 and 1
unfoldable pub is_sound : Image → Bool
is_sound x = sound_at (get x partitions) (get x slots) x

-- a reference names a slot in use
pub record NamesUsed (P S : ℕ) (x : Image) (κ : Key) : Type 0 where
  pub partition : (get x κ - 1) / radix < P
  pub slot : (get x κ - 1) % radix < S
  pub in_use : get x (state (place_of S (get x κ))) ≢ 0

-- the rest of a free slot's seven zeros: its state is 0, and so is its count, since nothing names it (free-count)
pub record Free (x : Image) (j : ℕ) : Type 0 where
  pub value : get x (payload j) ≡ 0
  pub fields : (k : ℕ) → k < 4 → get x (field j k) ≡ 0

-- the counts of n places are right
pub record Right (n S : ℕ) (x : Image) : Type 0 where
  pub counts : (i : ℕ) → i < n → get x (inlist i) ≡ in_count S n x i

pub record ShutHead (P S : ℕ) (x : Image) : Type 0 where
  pub counted : get x count ≡ 0
  pub allowed : get x allowance ≡ 0
  pub flags : (p : ℕ) → p < most_partitions → get x (flag p) ≡ 0
  pub unmarked : (j : ℕ) → j < P * S → get x (state j) ≢ 2

pub record OpenHead (P S : ℕ) (x : Image) : Type 0 where
  pub allowed : get x allowance ≤ P + P * S
  pub counted : get x count ≤ get x allowance

-- P is 1 to 16, S is 1 to 128
pub record Limits (P S : ℕ) : Type 0 where
  pub some_partition : 0 < P
  pub partitions_most : P ≤ most_partitions
  pub some_slot : 0 < S
  pub slots_most : S ≤ most_slots

-- the paper's conditions for P partitions of S slots
pub record SoundAt (P S : ℕ) (x : Image) : Type 0 where
  pub limits : Limits P S
  pub length_agrees : length_of x ≡ size P S
  pub phase_bit : get x phase ≤ 1
  pub states : (j : ℕ) → j < P * S → get x (state j) ≤ 2
  pub free_slots : (j : ℕ) → j < P * S → get x (state j) ≡ 0 → Free x j
  pub references : (κ : Key) → Holder (P * S) κ → get x κ ≢ 0 → NamesUsed P S x κ
  pub right : Right (P * S) S x
  pub flag_bits : (p : ℕ) → p < most_partitions → get x (flag p) ≤ 1
  pub flags_beyond : (p : ℕ) → p < most_partitions → P ≤ p → get x (flag p) ≡ 0
  pub shut : get x phase ≡ 0 → ShutHead P S x
  pub opened : get x phase ≡ 1 → OpenHead P S x

abbrev pub Sound : Image → Type 0
Sound x = SoundAt (get x partitions) (get x slots) x
