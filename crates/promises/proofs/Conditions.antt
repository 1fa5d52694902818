-- Each test of a judge fails exactly where the table's condition holds.
-- Assumes nothing.
use Prim.Native.Nat.{ℕ, ◌*◌, ◌≤◌, ◌<◌}
use mathlib.Core.Path.{◌≡◌, refl, sym}
use mathlib.Core.Bool.{Bool, true, false, not, cond, true≢false}
use mathlib.Core.Logic.{◌≢◌, ◌⊎◌, inl, inr, ⊎_elim}
use native.Mathlib.Nat.{eq-or-lt_of_le}
use native.Mathlib.Omega.{arith}
use lib.Dec.{eqb, ltb, leb}
use borrow.Author.Tests.{eqb-true, eqb-false, eq-eqb, ltb-true, ltb-false, leb-true, leb-false, not-true, not-false}
use Rattle.loops.specs.Loop.{both, every}
use Rattle.loops.proofs.Tests.{clash, lt_or_ge}
use Rattle.loops.proofs.Walks.{first_below}
use Rattle.loops.proofs.Loops.{every_true, every_so, every_false}
use Rattle.kinds.specs.Names.{most_partitions, most_slots, roots}
use Rattle.kinds.specs.declared.Name.{Name}
use Rattle.kinds.specs.Names.{Target}
use Rattle.std.specs.Prelude.{None, Some}
use Rattle.model.specs.Image.{Image, Key, anchor, root, flag, state, field, partitions, slots, phase, anchors, get, size, place, place_of, an_anchor as holds-anchor, a_field as holds-field}
use Rattle.model.specs.Acts.{used, marked, is_open, not_clean}
use Rattle.model.specs.Judge.{in_limits, in_heap, target_in_heap, target_used, rooted, leads_on, led, lowest}
use Rattle.model.specs.Sound.{is_sound}
use Rattle.model.proofs.Closing.{led_leads}
use Rattle.model.proofs.Progress.{lowest_unclean}
use Rattle.model.proofs.Refusing.{all_clean}
use Rattle.model.proofs.Soundness.{sound_true, sound_back}
use Rattle.promises.specs.Rows.{Unsound, WrongSize, no_partition, many_partitions, no_slot, many_slots, wrong_length, TooLarge, TargetTooLarge, InUse, NotInUse, TargetNotInUse, NotOpen, AlreadyOpen, NoRoot, Clean, Lowest, Live, an_anchor, a_field, Astray}
use Rattle.promises.proofs.Listing.{Tests}

-- tests of numbers
pub test_lt : (a b : ℕ) → Tests (ltb a b) (b ≤ a)
test_lt a b = record { fails = ltb-false a b; passes = λ e c. let l = ltb-true a b e in omega arith }

pub test_le : (a b : ℕ) → Tests (leb a b) (b < a)
test_le a b = record { fails = leb-false a b; passes = λ e c. let l = leb-true a b e in omega arith }

test_eq : (a b : ℕ) → Tests (eqb a b) (a ≢ b)
test_eq a b = record { fails = eqb-false a b; passes = λ e c. c (eqb-true a b e) }

pub test_ne : (a b : ℕ) → Tests (not (eqb a b)) (a ≡ b)
test_ne a b = record { fails = λ e. eqb-true a b (not-false _ e); passes = λ e c. eqb-false a b (not-true _ e) c }

-- two tests
pub test_both : (a b : Bool) (C D : Type 0) → Tests a C → Tests b D → Tests (both a b) (C ⊎ D)
test_both true b C D t u = record { fails = λ e. inr (u.fails e); passes = λ e x. ⊎_elim (t.passes refl) (u.passes e) x }
test_both false b C D t u = record { fails = λ e. inl (t.fails refl); passes = λ e x. true≢false (sym e) }

-- a condition said in another way
pub test_as : (b : Bool) (C D : Type 0) → (C → D) → (D → C) → Tests b C → Tests b D
test_as b C D f g t = record { fails = λ e. f (t.fails e); passes = λ e d. t.passes e (g d) }

-- 1
pub test_sound : (img : Image) → Tests (is_sound img) (Unsound img)
test_sound img = record { fails = λ e s. clash (sound_back img s) e; passes = λ e u. u (sound_true img e) }

-- 2
pub test_size : (P S n : ℕ) → Tests (both (in_limits P S) (eqb n (size P S))) (WrongSize most_slots P S n)
unfolding in_limits
test_size P S n =
    test_as _ _ _
    (⊎_elim
    (⊎_elim (⊎_elim (λ l. no_partition (omega arith)) (λ l. many_partitions l)) (⊎_elim (λ l. no_slot (omega arith)) (λ l. many_slots l)))
    (λ l. wrong_length l))
    back
    (test_both _ _ _ _
    (test_both _ _ _ _ (test_both _ _ _ _ (test_lt 0 P) (test_le P most_partitions)) (test_both _ _ _ _ (test_lt 0 S) (test_le S most_slots)))
    (test_eq n (size P S)))
  where
    back : WrongSize most_slots P S n → (((P ≤ 0) ⊎ (most_partitions < P)) ⊎ ((S ≤ 0) ⊎ (most_slots < S))) ⊎ (n ≢ size P S)
    back (no_partition l) = inl (inl (inl (omega arith)))
    back (many_partitions l) = inl (inl (inr l))
    back (no_slot l) = inl (inr (inl (omega arith)))
    back (many_slots l) = inl (inr (inr l))
    back (wrong_length l) = inr l

-- and where S is at most m besides
pub test_size_below : (m P S n : ℕ) → m ≤ most_slots → Tests (both (leb S m) (both (in_limits P S) (eqb n (size P S)))) (WrongSize m P S n)
test_size_below m P S n few = test_as _ _ _ (⊎_elim many_slots fewer) back (test_both _ _ _ _ (test_le S m) (test_size P S n))
  where
    fewer : WrongSize most_slots P S n → WrongSize m P S n
    fewer (no_partition l) = no_partition l
    fewer (many_partitions l) = many_partitions l
    fewer (no_slot l) = no_slot l
    fewer (many_slots l) = many_slots (omega arith)
    fewer (wrong_length l) = wrong_length l

    back : WrongSize m P S n → (m < S) ⊎ WrongSize most_slots P S n
    back (no_partition l) = inr (no_partition l)
    back (many_partitions l) = inr (many_partitions l)
    back (no_slot l) = inr (no_slot l)
    back (many_slots l) = inl l
    back (wrong_length l) = inr (wrong_length l)

-- 7
pub test_name : (P S : ℕ) (n : Name) → Tests (in_heap P S n) (TooLarge P S n)
test_name P S n = test_both _ _ _ _ (test_lt n.partition.0 P) (test_lt n.slot.0 S)

pub test_target : (P S : ℕ) (t : Target) → Tests (target_in_heap P S t) (TargetTooLarge P S t)
test_target P S None = record { fails = λ e. absurd (true≢false e); passes = λ e c. c }
test_target P S (Some q) = test_name P S q

-- 8 and 9
pub test_free : (S : ℕ) (img : Image) (n : Name) → Tests (not (used img (place S n))) (InUse S img n)
test_free S img n =
    record {
      fails = λ e. eqb-false (get img (state (place S n))) 0 (not-true _ (not-false _ e));
      passes = λ e c. c (eqb-true (get img (state (place S n))) 0 (not-false _ (not-true _ e)));
    }

pub test_used : (S : ℕ) (img : Image) (n : Name) → Tests (used img (place S n)) (NotInUse S img n)
test_used S img n = test_ne (get img (state (place S n))) 0

pub test_target_used : (S : ℕ) (img : Image) (t : Target) → Tests (target_used S img t) (TargetNotInUse S img t)
test_target_used S img None = record { fails = λ e. absurd (true≢false e); passes = λ e c. c }
test_target_used S img (Some q) = test_used S img q

-- 10 and 11
pub test_open : (img : Image) → Tests (is_open img) (NotOpen img)
test_open img = test_eq (get img phase) 1

pub test_shut : (img : Image) → Tests (not (is_open img)) (AlreadyOpen img)
test_shut img = test_ne (get img phase) 1

-- 12
pub test_rooted : (img : Image) → Tests (rooted img) (NoRoot img)
unfolding rooted
test_rooted img =
    record {
      fails = λ e r l. eqb-true (get img (root r)) 0 (every_true roots (λ r. eqb (get img (root r)) 0) (not-false _ e) r l);
      passes = λ e c. clash (every_so roots (λ r. eqb (get img (root r)) 0) (λ r l. eq-eqb (get img (root r)) 0 (c r l))) (not-true _ e);
    }

-- 13
pub test_unclean : (img : Image) (p : ℕ) → Tests (eqb (get img (flag p)) 0) (Clean img p)
test_unclean img p = test_eq (get img (flag p)) 0

-- 14: where a partition is not clean there is a lowest one, and the judge finds it
pub found_lowest : (img : Image) → not_clean (get img partitions) img ≢ 0 → Lowest img (lowest (get img partitions) img)
unfolding lowest
found_lowest img ne =
    let u = lowest_unclean (get img partitions) img ne in
    record { within = u.0; not_clean_lem = u.1; clean_below = λ q l. eqb-false _ _ (first_below (λ p. eqb (get img (flag p)) 0) (get img partitions) 0 q (omega arith) l) }

pub none_lowest : (img : Image) → not_clean (get img partitions) img ≡ 0 → (p : ℕ) → Lowest img p → ⊥
none_lowest img z p l = all_clean (get img partitions) img z p l.within l.not_clean_lem

pub one_lowest : (img : Image) (p q : ℕ) → Lowest img p → Lowest img q → p ≡ q
one_lowest img p q l m =
    ⊎_elim (λ a. absurd (m.clean_below p a l.not_clean_lem)) (λ a. ⊎_elim (λ e. sym e) (λ b. absurd (l.clean_below q b m.not_clean_lem)) (eq-or-lt_of_le a)) (lt_or_ge p q)

-- 16
both_one : (a b : Bool) → both a b ≡ false → (a ≡ false) ⊎ (b ≡ false)
both_one true b e = inr e
both_one false b e = inl refl

cond_one : (a b : Bool) → cond a b true ≡ false → (a ≡ true) × (b ≡ false)
cond_one true b e = (refl, e)
cond_one false b e = absurd (true≢false e)

leads_not : (S : ℕ) (img : Image) (κ : Key) → leads_on S img κ ≡ false → (get img κ ≢ 0) × (get img (state (place_of S (get img κ))) ≢ 2)
leads_not S img κ e = go (eqb (get img κ) 0) refl e
  where
    go : (b : Bool) → eqb (get img κ) 0 ≡ b → cond b true (marked img (place_of S (get img κ))) ≡ false → (get img κ ≢ 0) × (get img (state (place_of S (get img κ))) ≢ 2)
    go true q f = absurd (true≢false f)
    go false q f = (eqb-false _ _ q, eqb-false _ _ f)

pub test_led : (img : Image) → Tests (led (get img partitions) (get img slots) img) (Astray img)
unfolding led
test_led img = record { fails = λ e. ⊎_elim anchors_astray fields_astray (both_one _ _ e); passes = λ e a. go e a.holder a.live a.some a.unmarked }
  where
    P : ℕ
    P = get img partitions

    S : ℕ
    S = get img slots

    anchors_astray : every anchors (λ a. leads_on S img (anchor a)) ≡ false → Astray img
    anchors_astray e =
        let a = every_false anchors (λ a. leads_on S img (anchor a)) e in
        let n = leads_not S img (anchor a.0) a.2 in
        record { holder = anchor a.0; live = an_anchor a.1; some = n.0; unmarked = n.1 }

    fields_astray : every (P * S) (λ j. cond (marked img j) (every 4 (λ k. leads_on S img (field j k))) true) ≡ false → Astray img
    fields_astray e =
        let j = every_false (P * S) (λ j. cond (marked img j) (every 4 (λ k. leads_on S img (field j k))) true) e in
        let c = cond_one _ _ j.2 in
        let k = every_false 4 (λ k. leads_on S img (field j.0 k)) c.1 in
        let n = leads_not S img (field j.0 k.0) k.2 in
        record { holder = field j.0 k.0; live = a_field j.1 (eqb-true _ _ c.0) k.1; some = n.0; unmarked = n.1 }

    go : led P S img ≡ true → (κ : Key) → Live img κ → get img κ ≢ 0 → get img (state (place_of S (get img κ))) ≢ 2 → ⊥
    go e _ (an_anchor {a = a} l) s u = u (led_leads P S img e (anchor a) (holds-anchor l) tt s)
    go e _ (a_field {j = j} {k = k} l m b) s u = u (led_leads P S img e (field j k) (holds-field l b) m s)
