-- Places: slot s of partition p is the place p·S + s, and the word of a name leads to the name's place.
-- Assumes nothing.
use Prim.Native.Nat.{ℕ, ◌+◌, ◌*◌, ◌-◌, ◌/◌, ◌%◌, ◌≤◌, ◌<◌}
use mathlib.Core.Path.{◌≡◌, refl, ◌∙◌}
use native.Mathlib.Omega.{arith}
use native.Mathlib.Nat.{div-lt_iff_lt-mul, mul-add-div_right, div-eq_of_lt, div-add-mod', mod-lt, mul-le-mul_right, add-zero}
use Rattle.kinds.specs.Names.{radix, word_of}
use Rattle.kinds.specs.declared.Name.{Name}
use Rattle.std.specs.Prelude.{None, Some}
use Rattle.model.specs.Image.{place, place_of, part_of}

module _ (P S : ℕ) (some_slot : 0 < S) where
  pub parts : (j : ℕ) → j < P * S → part_of S j < P
  unfolding part_of
  parts j l = (div-lt_iff_lt-mul some_slot).1 l

  pub part_of_lem : (p s : ℕ) → s < S → part_of S (p * S + s) ≡ p
  unfolding part_of
  part_of_lem p s l = mul-add-div_right some_slot p s ∙ rw (div-eq_of_lt l) (add-zero p)

  pub slot_in : (p s : ℕ) → p < P → s < S → p * S + s < P * S
  slot_in p s l m = omega (arith, mul-le-mul_right S l)

  pub slot_of : (j p : ℕ) → part_of S j ≡ p → (s : ℕ) × (s < S) × (p * S + s ≡ j)
  unfolding part_of
  slot_of j p e = (j % S, mod-lt j some_slot, rw (← e) (div-add-mod' j S))

-- the places of partition p are S in a row, p·S the first
module _ (S p j : ℕ) (some_slot : 0 < S) where
  pub row_part : p * S ≤ j → j < p * S + S → part_of S j ≡ p
  row_part a b = let e : p * S + (j - p * S) ≡ j = omega arith in rw e at (part_of_lem p S some_slot p (j - p * S) (omega arith))

  pub part_row : part_of S j ≡ p → (p * S ≤ j) × (j < p * S + S)
  part_row e = let s = slot_of p S some_slot j p e in (omega (arith, s.2), omega (arith, s.1, s.2))

-- words of targets
pub word_none : word_of None ≡ 0
unfolding word_of
word_none = refl

pub place_word : (S : ℕ) (q : Name) → q.slot.0 < radix → place_of S (word_of (Some q)) ≡ place S q
unfolding place_of word_of
place_word S q l =
    let w : ℕ = q.partition.0 * radix + q.slot.0 + 1 in
    let d : (w - 1) / radix ≡ q.partition.0 = omega arith in
    let m : (w - 1) % radix ≡ q.slot.0 = omega arith in
    rw (d, m)
