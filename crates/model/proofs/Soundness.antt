-- The test of soundness passes exactly for a sound image: as a whole, and piece by piece over the index.
-- Assumes nothing.
use Prim.Native.Nat.{ℕ, ◌+◌, ◌*◌, ◌-◌, ◌/◌, ◌%◌, ◌≤◌, ◌<◌}
use mathlib.Core.Path.{◌≡◌, refl}
use mathlib.Core.Bool.{Bool, true, false, not, cond}
use mathlib.Core.Logic.{◌≢◌, ⊎_elim}
use native.Mathlib.Omega.{arith}
use lib.Dec.{eqb, ltb, leb}
use borrow.Author.Tests.{eqb-true, eqb-false, eq-eqb, ne_eqb, ltb-true, ltb-false, lt-ltb, leb-true, le-leb}
use Rattle.loops.specs.Loop.{both, every}
use Rattle.loops.proofs.Tests.{both_true, both_so, is_false, clash, eq_or_ne}
use Rattle.loops.proofs.Loops.{every_true, every_so}
use Rattle.kinds.specs.Names.{radix, most_partitions, most_slots}
use Rattle.model.specs.Image.{Image, Key, anchor, flag, state, payload, field, partitions, slots, phase, count, allowance, anchors, get, length_of, size, place_of, Holder, an_anchor, a_field}
use Rattle.model.specs.Acts.{used, marked, is_open}
use Rattle.model.specs.Judge.{in_limits}
use Rattle.model.specs.Sound.{Limits, in_range, ref_ok, free_ok, slot_ok, count_ok, Right, anchor_ok, flag_ok, flag_down, unmarked_at, open_ok, shut_ok, sound_at, is_sound, NamesUsed, Free, ShutHead, OpenHead, SoundAt, Sound}

-- what a test of the form "this, or else that" tells, and how it passes
cond_true : (a b : Bool) → cond a true b ≡ true → a ≡ false → b ≡ true
cond_true a b e f = rw f at e

cond_so : (a b : Bool) → (a ≡ false → b ≡ true) → cond a true b ≡ true
cond_so true b h = refl
cond_so false b h = h refl

module _ (P S : ℕ) where
  pub limits_true : in_limits P S ≡ true → Limits P S
  unfolding in_limits
  limits_true e =
      let a = both_true (both (ltb 0 P) (leb P most_partitions)) (both (ltb 0 S) (leb S most_slots)) e in
      let p = both_true (ltb 0 P) (leb P most_partitions) a.0 in
      let s = both_true (ltb 0 S) (leb S most_slots) a.1 in
      record {
        some_partition = ltb-true 0 P p.0;
        partitions_most = leb-true P most_partitions p.1;
        some_slot = ltb-true 0 S s.0;
        slots_most = leb-true S most_slots s.1;
      }

  pub limits_back : Limits P S → in_limits P S ≡ true
  unfolding in_limits
  limits_back h =
      rw (lt-ltb 0 P h.some_partition, le-leb P most_partitions h.partitions_most, lt-ltb 0 S h.some_slot, le-leb S most_slots h.slots_most)

  pub limits_not : (Limits P S → ⊥) → in_limits P S ≡ false
  limits_not h = is_false (in_limits P S) (λ e. h (limits_true e))

  -- the numbers of a reference word
  pub range_true : (w : ℕ) → in_range P S w ≡ true → ((w - 1) / radix < P) × ((w - 1) % radix < S)
  unfolding in_range
  range_true w e =
      let a = both_true (ltb ((w - 1) / radix) P) (ltb ((w - 1) % radix) S) e in
      (ltb-true ((w - 1) / radix) P a.0, ltb-true ((w - 1) % radix) S a.1)

  pub range_back : (w : ℕ) → (w - 1) / radix < P → (w - 1) % radix < S → in_range P S w ≡ true
  unfolding in_range
  range_back w l m = rw (lt-ltb ((w - 1) / radix) P l, lt-ltb ((w - 1) % radix) S m)

module _ (x : Image) where
  pub used_true : (j : ℕ) → used x j ≡ true → get x (state j) ≢ 0
  used_true j e z = clash {b = used x j} e (rw (eq-eqb (get x (state j)) 0 z))

  pub used_back : (j : ℕ) → get x (state j) ≢ 0 → used x j ≡ true
  used_back j n = rw (ne_eqb (get x (state j)) 0 n)

  pub used_none : (j : ℕ) → get x (state j) ≡ 0 → used x j ≡ false
  used_none j z = rw (eq-eqb (get x (state j)) 0 z)

  -- a free slot
  pub free_true : (j : ℕ) → free_ok x j ≡ true → Free x j
  unfolding free_ok
  free_true j e =
      let a = both_true (eqb (get x (payload j)) 0) (every 4 (λ k. eqb (get x (field j k)) 0)) e in
      record {
        value = eqb-true (get x (payload j)) 0 a.0;
        fields = λ k l. eqb-true (get x (field j k)) 0 (every_true 4 (λ k. eqb (get x (field j k)) 0) a.1 k l);
      }

  pub free_back : (j : ℕ) → Free x j → free_ok x j ≡ true
  unfolding free_ok
  free_back j h =
      rw
      (eq-eqb (get x (payload j)) 0 h.value, every_so 4 (λ k. eqb (get x (field j k)) 0) (λ k l. eq-eqb (get x (field j k)) 0 (h.fields k l)))

  -- flags that are 0, and places without a mark
  pub down_true : (p : ℕ) → flag_down x p ≡ true → get x (flag p) ≡ 0
  unfolding flag_down
  down_true p e = eqb-true (get x (flag p)) 0 e

  pub down_back : (p : ℕ) → get x (flag p) ≡ 0 → flag_down x p ≡ true
  unfolding flag_down
  down_back p z = eq-eqb (get x (flag p)) 0 z

  pub unmarked_true : (j : ℕ) → unmarked_at x j ≡ true → get x (state j) ≢ 2
  unfolding unmarked_at
  unmarked_true j e z = clash {b = not (marked x j)} e (rw (eq-eqb (get x (state j)) 2 z))

  pub unmarked_back : (j : ℕ) → get x (state j) ≢ 2 → unmarked_at x j ≡ true
  unfolding unmarked_at
  unmarked_back j n = rw (ne_eqb (get x (state j)) 2 n)

-- a flag is 0 or 1, and 0 from partition P on
pub record FlagOk (P : ℕ) (x : Image) (p : ℕ) : Type 0 where
  pub low : get x (flag p) ≤ 1
  pub beyond : P ≤ p → get x (flag p) ≡ 0

module _ (P : ℕ) (x : Image) (p : ℕ) where
  pub flag_true : flag_ok P x p ≡ true → FlagOk P x p
  unfolding flag_ok
  flag_true e =
      let a = both_true (leb (get x (flag p)) 1) (cond (ltb p P) true (eqb (get x (flag p)) 0)) e in
      record {
        low = leb-true (get x (flag p)) 1 a.0;
        beyond = λ l.
            eqb-true (get x (flag p)) 0
            (cond_true (ltb p P) (eqb (get x (flag p)) 0) a.1
            (is_false (ltb p P) (λ q. let m : p < P = ltb-true p P q in omega arith)));
      }

  pub flag_back : FlagOk P x p → flag_ok P x p ≡ true
  unfolding flag_ok
  flag_back h =
      both_so (leb (get x (flag p)) 1) (cond (ltb p P) true (eqb (get x (flag p)) 0))
      (le-leb (get x (flag p)) 1 h.low)
      (cond_so (ltb p P) (eqb (get x (flag p)) 0) (λ q. eq-eqb (get x (flag p)) 0 (h.beyond (ltb-false p P q))))

-- the state of a place is known, its references name slots in use, and free it is zeros
pub record SlotOk (P S : ℕ) (x : Image) (j : ℕ) : Type 0 where
  pub known : get x (state j) ≤ 2
  pub refers : (k : ℕ) → k < 4 → get x (field j k) ≢ 0 → NamesUsed P S x (field j k)
  pub free : get x (state j) ≡ 0 → Free x j

module _ (P S : ℕ) (x : Image) where
  -- a reference is nothing or names a slot in use
  pub ref_true : (κ : Key) → ref_ok P S x κ ≡ true → get x κ ≢ 0 → NamesUsed P S x κ
  unfolding ref_ok
  ref_true κ e n =
      let j = place_of S (get x κ) in
      let a =
      both_true (in_range P S (get x κ)) (used x j)
      (cond_true (eqb (get x κ) 0) (both (in_range P S (get x κ)) (used x j)) e (ne_eqb (get x κ) 0 n)) in
      let r = range_true P S (get x κ) a.0 in
      record { partition = r.0; slot = r.1; in_use = used_true x j a.1 }

  pub ref_back : (κ : Key) → (get x κ ≢ 0 → NamesUsed P S x κ) → ref_ok P S x κ ≡ true
  unfolding ref_ok
  ref_back κ h =
      cond_so (eqb (get x κ) 0) (both (in_range P S (get x κ)) (used x (place_of S (get x κ))))
      (λ e.
      let u : NamesUsed P S x κ = h (eqb-false (get x κ) 0 e) in
      rw (range_back P S (get x κ) u.partition u.slot, used_back x (place_of S (get x κ)) u.in_use))

  pub ref_nothing : (κ : Key) → get x κ ≡ 0 → ref_ok P S x κ ≡ true
  ref_nothing κ z = ref_back κ (λ n. absurd (n z))

  pub ref_not : (κ : Key) → get x κ ≢ 0 → (NamesUsed P S x κ → ⊥) → ref_ok P S x κ ≡ false
  ref_not κ n h = is_false (ref_ok P S x κ) (λ e. h (ref_true κ e n))

  pub anchor_true : (r : ℕ) → anchor_ok P S x r ≡ true → get x (anchor r) ≢ 0 → NamesUsed P S x (anchor r)
  unfolding anchor_ok
  anchor_true r e = ref_true (anchor r) e

  pub anchor_back : (r : ℕ) → (get x (anchor r) ≢ 0 → NamesUsed P S x (anchor r)) → anchor_ok P S x r ≡ true
  unfolding anchor_ok
  anchor_back r h = ref_back (anchor r) h

  -- a slot
  pub slot_true : (j : ℕ) → slot_ok P S x j ≡ true → SlotOk P S x j
  unfolding slot_ok
  slot_true j e =
      let a = both_true (leb (get x (state j)) 2) (both (every 4 (λ k. ref_ok P S x (field j k))) (cond (used x j) true (free_ok x j))) e in
      let b = both_true (every 4 (λ k. ref_ok P S x (field j k))) (cond (used x j) true (free_ok x j)) a.1 in
      record {
        known = leb-true (get x (state j)) 2 a.0;
        refers = λ k l. ref_true (field j k) (every_true 4 (λ k. ref_ok P S x (field j k)) b.0 k l);
        free = λ z. free_true x j (cond_true (used x j) (free_ok x j) b.1 (used_none x j z));
      }

  pub slot_back : (j : ℕ) → SlotOk P S x j → slot_ok P S x j ≡ true
  unfolding slot_ok
  slot_back j h =
      rw (
        le-leb (get x (state j)) 2 h.known,
        every_so 4 (λ k. ref_ok P S x (field j k)) (λ k l. ref_back (field j k) (h.refers k l)),
        cond_so (used x j) (free_ok x j) (λ e. free_back x j (h.free (unused e))),
      )
    where
      unused : used x j ≡ false → get x (state j) ≡ 0
      unused e = ⊎_elim (λ z. z) (λ n. absurd (clash {b = used x j} (used_back x j n) e)) (eq_or_ne (get x (state j)) 0)

  -- the counts
  pub right_true : every (P * S) (count_ok S (P * S) x) ≡ true → Right (P * S) S x
  unfolding count_ok
  right_true e = record { counts = λ i l. eqb-true _ _ (every_true (P * S) (count_ok S (P * S) x) e i l) }

  pub right_back : Right (P * S) S x → every (P * S) (count_ok S (P * S) x) ≡ true
  unfolding count_ok
  right_back r = every_so (P * S) (count_ok S (P * S) x) (λ i l. eq-eqb _ _ (r.counts i l))

  -- the head of an open phase, and of a shut one
  pub open_true : open_ok P S x ≡ true → OpenHead P S x
  unfolding open_ok
  open_true e =
      let a = both_true (leb (get x allowance) (P + P * S)) (leb (get x count) (get x allowance)) e in
      record { allowed = leb-true (get x allowance) (P + P * S) a.0; counted = leb-true (get x count) (get x allowance) a.1 }

  pub open_back : OpenHead P S x → open_ok P S x ≡ true
  unfolding open_ok
  open_back h = rw (le-leb (get x allowance) (P + P * S) h.allowed, le-leb (get x count) (get x allowance) h.counted)

  pub open_not : (OpenHead P S x → ⊥) → open_ok P S x ≡ false
  open_not h = is_false (open_ok P S x) (λ e. h (open_true e))

  pub shut_true : shut_ok P S x ≡ true → ShutHead P S x
  unfolding shut_ok
  shut_true e =
      let a =
      both_true (eqb (get x count) 0)
      (both (eqb (get x allowance) 0) (both (every most_partitions (flag_down x)) (every (P * S) (unmarked_at x)))) e in
      let b = both_true (eqb (get x allowance) 0) (both (every most_partitions (flag_down x)) (every (P * S) (unmarked_at x))) a.1 in
      let d = both_true (every most_partitions (flag_down x)) (every (P * S) (unmarked_at x)) b.1 in
      record {
        counted = eqb-true (get x count) 0 a.0;
        allowed = eqb-true (get x allowance) 0 b.0;
        flags = λ p l. down_true x p (every_true most_partitions (flag_down x) d.0 p l);
        unmarked = λ j l. unmarked_true x j (every_true (P * S) (unmarked_at x) d.1 j l);
      }

  pub shut_back : ShutHead P S x → shut_ok P S x ≡ true
  unfolding shut_ok
  shut_back h =
      rw (
        eq-eqb (get x count) 0 h.counted,
        eq-eqb (get x allowance) 0 h.allowed,
        every_so most_partitions (flag_down x) (λ p l. down_back x p (h.flags p l)),
        every_so (P * S) (unmarked_at x) (λ j l. unmarked_back x j (h.unmarked j l)),
      )

  -- the words of the head that the phase decides
  phase_ok : Bool
  phase_ok = cond (is_open x) (open_ok P S x) (shut_ok P S x)

  phase_opened : phase_ok ≡ true → get x phase ≡ 1 → OpenHead P S x
  unfolding phase_ok
  phase_opened e o = open_true (rw (eq-eqb (get x phase) 1 o) at e)

  phase_shut : phase_ok ≡ true → get x phase ≡ 0 → ShutHead P S x
  unfolding phase_ok
  phase_shut e o = shut_true (rw (ne_eqb (get x phase) 1 (λ q. omega arith)) at e)

  phase_back : get x phase ≤ 1 → (get x phase ≡ 0 → ShutHead P S x) → (get x phase ≡ 1 → OpenHead P S x) → phase_ok ≡ true
  unfolding phase_ok
  phase_back l s o = go (eqb (get x phase) 1) refl
    where
      go : (b : Bool) → eqb (get x phase) 1 ≡ b → cond b (open_ok P S x) (shut_ok P S x) ≡ true
      go true e = open_back (o (eqb-true (get x phase) 1 e))
      go false e = let n : get x phase ≢ 1 = eqb-false (get x phase) 1 e in shut_back (s (omega arith))

  pub sound_at_true : sound_at P S x ≡ true → SoundAt P S x
  unfolding sound_at phase_ok
  sound_at_true e =
      let a = both_true (in_limits P S) _ e in
      let b = both_true (eqb (length_of x) (size P S)) _ a.1 in
      let d = both_true (leb (get x phase) 1) _ b.1 in
      let f = both_true (every (P * S) (slot_ok P S x)) _ d.1 in
      let c = both_true (every (P * S) (count_ok S (P * S) x)) _ f.1 in
      let g = both_true (every anchors (anchor_ok P S x)) _ c.1 in
      let h = both_true (every most_partitions (flag_ok P x)) phase_ok g.1 in
      record {
        limits = limits_true P S a.0;
        length_agrees = eqb-true (length_of x) (size P S) b.0;
        phase_bit = leb-true (get x phase) 1 d.0;
        states = λ j l. (slot_true j (every_true (P * S) (slot_ok P S x) f.0 j l)).known;
        free_slots = λ j l. (slot_true j (every_true (P * S) (slot_ok P S x) f.0 j l)).free;
        references = refs f.0 g.0;
        right = right_true c.0;
        flag_bits = λ p l. (flag_true P x p (every_true most_partitions (flag_ok P x) h.0 p l)).low;
        flags_beyond = λ p l. (flag_true P x p (every_true most_partitions (flag_ok P x) h.0 p l)).beyond;
        shut = phase_shut h.1;
        opened = phase_opened h.1;
      }
    where
      refs : every (P * S) (slot_ok P S x) ≡ true → every anchors (anchor_ok P S x) ≡ true → (κ : Key) → Holder (P * S) κ → get x κ ≢ 0 → NamesUsed P S x κ
      refs s r κ (an_anchor {a = q} l) = anchor_true q (every_true anchors (anchor_ok P S x) r q l)
      refs s r κ (a_field {j = j} {k = k} l m) = (slot_true j (every_true (P * S) (slot_ok P S x) s j l)).refers k m

  -- a slot and a flag of a sound image
  pub sound_slot : SoundAt P S x → (j : ℕ) → j < P * S → SlotOk P S x j
  sound_slot h j l = record { known = h.states j l; refers = λ k m. h.references (field j k) (a_field l m); free = h.free_slots j l }

  pub sound_flag : SoundAt P S x → (p : ℕ) → p < most_partitions → FlagOk P x p
  sound_flag h p l = record { low = h.flag_bits p l; beyond = h.flags_beyond p l }

  pub sound_at_back : SoundAt P S x → sound_at P S x ≡ true
  unfolding sound_at phase_ok
  sound_at_back h =
      rw (
        limits_back P S h.limits,
        eq-eqb (length_of x) (size P S) h.length_agrees,
        le-leb (get x phase) 1 h.phase_bit,
        every_so (P * S) (slot_ok P S x) (λ j l. slot_back j (sound_slot h j l)),
        right_back h.right,
        every_so anchors (anchor_ok P S x) (λ r l. anchor_back r (h.references (anchor r) (an_anchor l))),
        every_so most_partitions (flag_ok P x) (λ p l. flag_back P x p (sound_flag h p l)),
      )
      (phase_back h.phase_bit h.shut h.opened)

  pub sound_at_not : (SoundAt P S x → ⊥) → sound_at P S x ≡ false
  sound_at_not h = is_false (sound_at P S x) (λ e. h (sound_at_true e))

-- the test and the record of soundness agree
module _ (x : Image) where
  pub sound_true : is_sound x ≡ true → Sound x
  unfolding is_sound
  sound_true e = sound_at_true (get x partitions) (get x slots) x e

  pub sound_back : Sound x → is_sound x ≡ true
  unfolding is_sound
  sound_back h = sound_at_back (get x partitions) (get x slots) x h

  pub sound_not : (Sound x → ⊥) → is_sound x ≡ false
  unfolding is_sound
  sound_not h = sound_at_not (get x partitions) (get x slots) x h
