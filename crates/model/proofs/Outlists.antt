-- The outlist of partition p of a sound image: ordered, without repeats, exactly the foreign names that fields of p's objects in use hold, at most 4·S of them.
-- Assumes nothing.
use Prim.Native.Nat.{ℕ, zero, suc, ◌+◌, ◌*◌, ◌-◌, ◌/◌, ◌%◌, ◌≤◌, ◌<◌}
use mathlib.Core.Path.{◌≡◌, sym, ap, ◌∙◌, subst}
use mathlib.Core.Bool.{Bool, true, false, not, cond}
use mathlib.Core.Logic.{◌≢◌, ⊎_elim}
use native.Mathlib.Omega.{arith}
use native.Mathlib.Nat.{mul-le-mul}
use lib.Arith.{digits_div, digits_mod}
use lib.Dec.{eqb}
use lib.ListN.{length, replicate}
use borrow.Author.Tests.{eqb-false, ne_eqb, not-true}
use Rattle.loops.specs.Loop.{both, each, tally}
use Rattle.loops.proofs.Tests.{both_true, bit_le, lt_or_ge, is_false}
use Rattle.loops.proofs.Loops.{tally_same, tally_move}
use Rattle.loops.proofs.Walks.{tally_none_pass}
use Rattle.kinds.specs.Names.{radix, most_partitions, most_slots, most_places, most_names}
use Rattle.model.specs.Image.{Image, field, get, place_of, part_of, abroad, a_field}
use Rattle.model.specs.Acts.{used}
use Rattle.model.specs.Questions.{Bits, has_bit, add_bit, collect}
use Rattle.model.specs.Sound.{SoundAt}
use Rattle.model.specs.Outlist.{word_out, goes_out, goes_to, out_bits, name_at, list_names, outlist, HoldsOut, Outlisted}
use Rattle.model.proofs.Places.{part_of_lem, slot_in, slot_of}
use Rattle.model.proofs.Bits.{Wide, bit_other, bit_wide, none_wide, none_has, collect_only, collect_has}
use Rattle.model.proofs.SoundnessMoves.{reference_place}
use Rattle.model.proofs.Naming.{tally_rises, Listed, listed}

-- one addition raises the number of bits by at most 1
add_tally : (b : Bits) (t : ℕ) → Wide most_places b → tally most_places (has_bit (add_bit b t)) ≤ tally most_places (has_bit b) + 1
add_tally b t w = ⊎_elim inside outside (lt_or_ge t most_places)
  where
    inside : t < most_places → tally most_places (has_bit (add_bit b t)) ≤ tally most_places (has_bit b) + 1
    inside l =
        let m = tally_move most_places (has_bit b) (has_bit (add_bit b t)) t l (λ i k ne. sym (bit_other most_places b t i (λ q. ne (sym q)))) in
        let a = bit_le (has_bit (add_bit b t) t) in
        omega arith

    outside : most_places ≤ t → tally most_places (has_bit (add_bit b t)) ≤ tally most_places (has_bit b) + 1
    outside l = let e = tally_same most_places (has_bit (add_bit b t)) (has_bit b) (λ i k. bit_other most_places b t i (λ q. omega arith)) in omega arith

-- so a row of m additions to nothing leaves at most m bits
pub row_tally : (m : ℕ) (test : ℕ → Bool) (at : ℕ → ℕ) → Wide most_places (collect m test at (replicate most_places 0)) × (tally most_places (has_bit (collect m test at (replicate most_places 0))) ≤ m)
unfolding collect each
row_tally zero test at = (none_wide most_places, let z = tally_none_pass most_places (has_bit (replicate most_places 0)) (λ i l. is_false _ (none_has most_places i)) in omega arith)
row_tally (suc m) test at = go (test m) _ (row_tally m test at)
  where
    go : (c : Bool) (b : Bits) → Wide most_places b × (tally most_places (has_bit b) ≤ m) → Wide most_places (cond c (add_bit b (at m)) b) × (tally most_places (has_bit (cond c (add_bit b (at m)) b)) ≤ suc m)
    go true b r = let a = add_tally b (at m) r.0 in let s = r.1 in (bit_wide most_places b (at m) r.0, omega arith)
    go false b r = let s = r.1 in (r.0, omega arith)

pub out_tally : (S p : ℕ) (x : Image) → (length (out_bits S p x) ≡ most_places) × (tally most_places (has_bit (out_bits S p x)) ≤ 4 * S)
unfolding out_bits Wide
out_tally S p x = row_tally (4 * S) (goes_out S p x) (goes_to S p x)

-- the name of the place of a word is the word
pub name_word : (S w : ℕ) → w ≢ 0 → (w - 1) % radix < S → name_at S (place_of S w) ≡ w
unfolding name_at place_of
name_word S w n l = rw (digits_div ((w - 1) / radix) l, digits_mod ((w - 1) / radix) l) (omega arith)

module _ (P S p : ℕ) (inp : p < P) (x : Image) (s : SoundAt P S x) where
  slot_small : (k : ℕ) → k < S → p * S + k < P * S
  slot_small k l = slot_in P S s.limits.some_slot p k inp l

  refs : (j k : ℕ) → j < P * S → k < 4 → get x (field j k) ≢ 0 → place_of S (get x (field j k)) < P * S
  refs j k l m n = reference_place P S x (field j k) (a_field l m) n s

  places : P * S ≤ most_places
  places = mul-le-mul {n₁ = P} {m₁ = S} {n₂ = most_partitions} {m₂ = most_slots} s.limits.partitions_most s.limits.slots_most

  few_out : tally most_places (has_bit (out_bits S p x)) ≤ most_names
  few_out = omega (arith, (out_tally S p x).1, s.limits.slots_most)

  -- a word that leads from p abroad is a name outside p
  abroad_is : (j v : ℕ) → part_of S j ≡ p → abroad S j v ≡ true → (v ≢ 0) × (part_of S (place_of S v) ≢ p)
  unfolding abroad
  abroad_is j v o e =
      let b = both_true (not (eqb v 0)) (not (eqb (part_of S j) (part_of S (place_of S v)))) e in
      (eqb-false _ _ (not-true _ b.0), λ q. eqb-false _ _ (not-true _ b.1) (o ∙ sym q))

  abroad_so : (j v : ℕ) → part_of S j ≡ p → v ≢ 0 → part_of S (place_of S v) ≢ p → abroad S j v ≡ true
  unfolding abroad
  abroad_so j v o n far = rw (ne_eqb v 0 n, o, ne_eqb p (part_of S (place_of S v)) (λ q. far (sym q)))

  own_slot : (f : ℕ) → f < 4 * S → part_of S (p * S + f / 4) ≡ p
  own_slot f l = part_of_lem P S s.limits.some_slot p (f / 4) (omega arith)

  -- what is marked, by fields
  marked_out : (i : ℕ) → has_bit (out_bits S p x) i ≡ true → (j : ℕ) × (k : ℕ) × HoldsOut S p x j k (name_at S i)
  unfolding out_bits goes_out goes_to
  marked_out i h =
      ⊎_elim (λ z. absurd (none_has most_places i z)) (λ q. found q.0 q.1 q.2 q.3) (collect_only most_places (goes_out S p x) (goes_to S p x) (4 * S) (replicate most_places 0) i h)
    where
      found : (f : ℕ) → f < 4 * S → both (used x (p * S + f / 4)) (abroad S (p * S + f / 4) (word_out S p x f)) ≡ true → place_of S (word_out S p x f) ≡ i
          → (j : ℕ) × (k : ℕ) × HoldsOut S p x j k (name_at S i)
      found f l e q =
          let b = both_true (used x (p * S + f / 4)) (abroad S (p * S + f / 4) (word_out S p x f)) e in
          let a = abroad_is (p * S + f / 4) (word_out S p x f) (own_slot f l) b.1 in
          let u = s.references (field (p * S + f / 4) (f % 4)) (a_field (slot_small (f / 4) (omega arith)) (omega arith)) a.0 in
          let n : name_at S i ≡ word_out S p x f = rw (← q) (name_word S (word_out S p x f) a.0 u.slot) in (
            p * S + f / 4,
            f % 4,
            record {
              own = own_slot f l;
              in_use = eqb-false _ _ (not-true _ b.0);
              number = omega arith;
              word = sym n;
              some = rw n a.0;
              foreign = rw n a.1;
            },
          )

  out_marked : (j k v : ℕ) → HoldsOut S p x j k v → (place_of S v < P * S) × (has_bit (out_bits S p x) (place_of S v) ≡ true) × (name_at S (place_of S v) ≡ v)
  unfolding out_bits goes_out goes_to
  out_marked j k v h =
      let q = slot_of P S s.limits.some_slot j p h.own in
      let d : (4 * q.0 + k) / 4 ≡ q.0 = omega (arith, h.number) in
      let r : (4 * q.0 + k) % 4 ≡ k = omega (arith, h.number) in
      let l : j < P * S = rw (← q.2) (slot_in P S s.limits.some_slot p q.0 inp q.1) in
      let u = s.references (field j k) (a_field l h.number) (λ z. h.some (sym h.word ∙ z)) in
      let inn : place_of S v < P * S = rw h.word at (refs j k l h.number (λ z. h.some (sym h.word ∙ z))) in
      let e : word_out S p x (4 * q.0 + k) ≡ v = rw (d, r, q.2) h.word in
      let pass : goes_out S p x (4 * q.0 + k) ≡ true = rw (e, d, q.2, ne_eqb _ _ h.in_use) (abroad_so j v h.own h.some h.foreign) in
      let m = collect_has most_places (goes_out S p x) (goes_to S p x) (4 * S) inside (replicate most_places 0) (4 * q.0 + k) (none_wide most_places) (omega (arith, q.1, h.number)) pass in
      (inn, rw (ap (place_of S) e) at m, name_word S v h.some (rw h.word at u.slot))
    where
      inside : (f : ℕ) → f < 4 * S → goes_out S p x f ≡ true → goes_to S p x f < most_places
      inside f l e =
          let b = both_true (used x (p * S + f / 4)) (abroad S (p * S + f / 4) (word_out S p x f)) e in
          let t = refs (p * S + f / 4) (f % 4) (slot_small (f / 4) (omega arith)) (omega arith) (abroad_is (p * S + f / 4) (word_out S p x f) (own_slot f l) b.1).0 in
          let m = places in
          omega arith

  pub outlisted : Outlisted S p x (outlist P S p x)
  unfolding outlist
  outlisted =
      let r : Listed S (out_bits S p x) (P * S) (list_names (P * S) S (out_bits S p x)) = listed S s.limits.some_slot s.limits.slots_most (out_bits S p x) few_out (P * S) places in
      record {
        long = r.long;
        few = omega (arith, r.counted, tally_rises (has_bit (out_bits S p x)) (P * S) most_places places, (out_tally S p x).1);
        ordered = r.ordered;
        held = λ a l. let h = r.held a l in subst (λ (v : ℕ). (j : ℕ) × (k : ℕ) × HoldsOut S p x j k v) (sym h.3) (marked_out h.0 h.2);
        all = λ j k v h. let m = out_marked j k v h in let q = r.all (place_of S v) m.0 m.1 in (q.0, q.1, q.2 ∙ m.2);
        unused = r.unused;
      }
